-- The definitions of the crates below that contracts and proofs of this one cite, passed on from one place. Declares nothing.
pub use Rattle.mls_checker.specs.Copies.{Snapshot, copied_layout}
pub use Rattle.mls_checker.specs.Findings.{Finding, IsExact, forbids_in, is_violated_in}
unfoldable pub use Rattle.mls_checker.specs.Findings.{violated_rules}
pub use Rattle.mls_checker.specs.Forbids.{forbidden, forbids, in_block, in_row, is_disallowed}
unfoldable pub use Rattle.mls_checker.specs.Forbids.{reaches}
pub use Rattle.mls_checker.specs.Halos.{surroundings, zone_of}
pub use Rattle.mls_checker.specs.Marking.{Marks, SquareSet, has_some, marks, no_squares, runs_of_rows, squares_of}
unfoldable pub use Rattle.mls_checker.specs.Marking.{square_count}
pub use Rattle.mls_checker.specs.Violations.{GainSomeViolations, GainViolations, areas_at, violations_of}
pub use Rattle.mls_checker.specs.ZoneLayouts.{AgreeIn, AgreeOutside, within}
pub use Rattle.mls_edgerule.specs.Directions.{directions_in}
pub use Rattle.mls_edgerule.specs.Halos.{halo_of}
pub use Rattle.mls_edgerule.specs.RuleLists.{rule_limit}
unfoldable pub use Rattle.mls_edgerule.specs.RuleSets.{rules_in, union}
pub use Rattle.mls_edgerule.specs.declared.directions.Directions.{Directions}
pub use Rattle.mls_edgerule.specs.declared.edge_rule.EdgeRule.{EdgeRule}
pub use Rattle.mls_geom.specs.Directions.{across}
pub use Rattle.mls_geom.specs.Layouts.{Layout}
pub use Rattle.mls_geom.specs.Locality.{AreCoveredStrips, HaveKinds, laid, uncovered}
unfoldable pub use Rattle.mls_geom.specs.Locality.{covered_count}
pub use Rattle.mls_geom.specs.Pictures.{Picture, columns, empty_picture, overlaid, painted, picture_of, rows}
pub use Rattle.mls_geom.specs.Rects.{IsRectangleIn, IsWithin, Point, Rect, clipped, common, grown, has_squares, holds, joined, meets, size_of}
unfoldable pub use Rattle.mls_geom.specs.StripLists.{strips_of}
pub use Rattle.mls_geom.specs.Strips.{IsRun, IsStrip, comes_before}
pub use Rattle.mls_geom.specs.TileCounts.{goes_on_below, is_corner, run_end, starts_run}
unfoldable pub use Rattle.mls_geom.specs.TileCounts.{tile_count}
pub use Rattle.mls_geom.specs.World.{world}
pub use Rattle.mls_geom.specs.declared.direction.Direction.{Direction}
pub use Rattle.mls_geom.specs.declared.piece.Piece.{Piece}
pub use Rattle.mls_kinds.specs.KindSets.{has_bit}
pub use Rattle.mls_layout.specs.Likenesses.{ShowsAlike, Spans, like_column, like_row}
pub use Rattle.mls_layout.specs.Strips.{IfTooMany}
pub use Rattle.mls_layout.specs.Uses.{HasLayout, flat_layout}
pub use Rattle.mls_layout.specs.Workspaces.{FitsWorkspace, tile_room}
pub use Rattle.mls_layout.specs.declared.likeness.Likeness.{Likeness}
pub use Rattle.mls_layout.specs.declared.strips.Unlisted.{Unlisted}
pub use Rattle.mls_layout.specs.declared.uses.Uses.{Uses}
pub use Rattle.mls_library.specs.Libraries.{Library}
pub use Rattle.mls_paint.specs.Owners.{ChangesAmong, RemovesOwners}
pub use Rattle.mls_paint.specs.Planes.{AddsOwner, HasStrips, layout_in, picture_at, picture_in}
pub use Rattle.mls_paint.specs.Scratches.{HasRoomFor, KeepsRoom}
pub use Rattle.mls_stitch.specs.Areas.{AreInArea, IsFound, MeetArea, comes_first}
pub use Rattle.mls_stitch.specs.Tilings.{AreBlocks, ChangesOnly, HasPlane, block_at, blocks_of, shown}
pub use Rattle.mls_stitch.specs.declared.laid_tile.LaidTile.{LaidTile}
pub use Rattle.mls_tilepool.specs.Pools.{IsOwner, Pool, count_of, room_of, unreserved}
unfoldable pub use Rattle.mls_tilepool.specs.Pools.{tiles_of}
