-- The definitions of the crates below that contracts and proofs of this one cite, passed on from one place. Declares nothing.
pub use Rattle.mls_checker.specs.Findings.{Finding}
unfoldable pub use Rattle.mls_checker.specs.Findings.{violated_rules}
pub use Rattle.mls_checker.specs.Marking.{SquareSet, no_squares}
pub use Rattle.mls_checker.specs.ZoneLayouts.{AgreeOutside}
pub use Rattle.mls_edgerule.specs.declared.edge_rule.EdgeRule.{EdgeRule}
pub use Rattle.mls_errorplane.specs.CatchingUp.{HasCaughtUp, Steps}
pub use Rattle.mls_errorplane.specs.Checkings.{Checking, IsChecked, check_step, dirtied, opening_checking}
pub use Rattle.mls_errorplane.specs.DirtyLists.{IsDirtyList, area_of}
pub use Rattle.mls_errorplane.specs.ErrorPlanes.{ErrorPlane, HasStepped, ShowsMarks, StandsApart, UnlessDone, checking_of, exceeds, marks_picture}
pub use Rattle.mls_errorplane.specs.ErrorsIn.{areas_in, squares_in}
pub use Rattle.mls_errorplane.specs.Jobs.{HasGrabbed}
pub use Rattle.mls_errorplane.specs.MarkPlanes.{is_marked}
unfoldable pub use Rattle.mls_errorplane.specs.MarkPlanes.{marked_count}
pub use Rattle.mls_errorplane.specs.Outcomes.{HasFinished, IsFresh, UnlessFinished}
pub use Rattle.mls_errorplane.specs.Stretches.{AreRightIn}
pub use Rattle.mls_errorplane.specs.Violations.{Violation, squares_in_all, strip_count}
unfoldable pub use Rattle.mls_errorplane.specs.Violations.{violations_in}
pub use Rattle.mls_errorplane.specs.declared.catching_up.CaughtUp.{CaughtUp}
pub use Rattle.mls_errorplane.specs.declared.check_context.CheckContext.{CheckContext}
pub use Rattle.mls_errorplane.specs.declared.checked.Checked.{Checked}
pub use Rattle.mls_errorplane.specs.declared.error_plane.Outcome.{Outcome}
pub use Rattle.mls_errorplane.specs.declared.error_plane.Stepped.{Stepped}
pub use Rattle.mls_geom.specs.Layouts.{Layout}
pub use Rattle.mls_geom.specs.Pictures.{Picture, columns, empty_picture, overlaid, painted, rows, shows}
unfoldable pub use Rattle.mls_geom.specs.Pictures.{kinds_in}
pub use Rattle.mls_geom.specs.Rects.{IsRectangleIn, Rect, clipped, common, holds, meets}
unfoldable pub use Rattle.mls_geom.specs.StripLists.{strips_of}
pub use Rattle.mls_geom.specs.Strips.{AreStrips}
pub use Rattle.mls_geom.specs.TileCounts.{is_corner}
unfoldable pub use Rattle.mls_geom.specs.TileCounts.{tile_count}
pub use Rattle.mls_geom.specs.World.{origin, world}
unfoldable pub use Rattle.mls_geom.specs.World.{coordinate_of, is_outside, rect_of}
pub use Rattle.mls_geom.specs.declared.piece.Piece.{Piece}
pub use Rattle.mls_geom.specs.declared.rect.RectFault.{RectFault}
unfoldable pub use Rattle.mls_kinds.specs.KindSets.{members, set_of, union}
pub use Rattle.mls_layout.specs.Moves.{kind_or_space}
unfoldable pub use Rattle.mls_layout.specs.Moves.{moved_picture}
pub use Rattle.mls_layout.specs.Strips.{IfTooMany}
pub use Rattle.mls_layout.specs.Uses.{HasFlatPlane, HasLayout, HasPlanes, cell_layouts, cell_shown, flat_layout, flat_plane, most_uses, over, use_layout, uses_layout}
unfoldable pub use Rattle.mls_layout.specs.Uses.{flattened}
pub use Rattle.mls_layout.specs.Workspaces.{FitsWorkspace, most_planes}
pub use Rattle.mls_layout.specs.declared.strips.Unlisted.{Unlisted}
pub use Rattle.mls_layout.specs.declared.uses.CellUse.{CellUse}
pub use Rattle.mls_layout.specs.declared.uses.Uses.{Uses}
pub use Rattle.mls_library.specs.Bounds.{has_paint, painted_bounds}
pub use Rattle.mls_library.specs.Libraries.{IsFrozen, IsHome, Library, NamedCell, ShowOwnTypes, cell_layout, most_tiles}
pub use Rattle.mls_library.specs.MarkedCells.{dirty_lines, empty_layout, mark_lines, marked, marked_line_count, marked_text, most_flat_tiles}
pub use Rattle.mls_library.specs.SavedCells.{Extends, HoldsOwnTypes, ReadsAs, ShowsOwnTypes, end_lines, first_name, header_lines, layer_lines, of_kind, rect_words, saved_line_count, saved_text, section_lines, spaced, strips_on, type_numbers}
unfoldable pub use Rattle.mls_library.specs.SavedCells.{layers_lines, text_of}
pub use Rattle.mls_paint.specs.Owners.{AddsOwners, ChangesAmong, RemovesOwners}
pub use Rattle.mls_paint.specs.Planes.{AddsOwner, HasStrips, layout_in, picture_at, picture_in}
pub use Rattle.mls_paint.specs.Plans.{IsPlanFor, Plan, no_plan}
pub use Rattle.mls_paint.specs.Scratches.{HasRoomFor, KeepsRoom, Scratch, plan_of}
pub use Rattle.mls_stitch.specs.Areas.{AreInArea, AreSearched, IsFound, ListTouched}
pub use Rattle.mls_stitch.specs.Tilings.{ChangesOnly, HasPlane, IsPlane, block_at, shown}
pub use Rattle.mls_stitch.specs.declared.laid_tile.LaidTile.{LaidTile}
pub use Rattle.mls_tech.specs.Readings.{Tech, nothing_read, plane_of_type}
pub use Rattle.mls_tilepool.specs.Pools.{IsOwner, Pool, room_of, unreserved}
unfoldable pub use Rattle.mls_tilepool.specs.Pools.{tiles_of}
pub use Rattle.mls_tilepool.specs.declared.tile.Tile.{Tile}
