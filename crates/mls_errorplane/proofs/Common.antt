-- The definitions of this crate and of those below that its proofs cite, passed on from one place. Declares nothing.
pub use Rattle.mls_edgerule.specs.declared.directions.Directions.TheVariants.{Four, RightAndUp}
pub use Rattle.mls_errorplane.specs.Carrying.{AreCarried, AreFew, GoUp, LeavesRoom, RunsThrough, carries_up, edge_of, likened, part_like, piece_like}
pub use Rattle.mls_errorplane.specs.CatchingUp.{AfterSteps, HasCaughtUp, Steps}
pub use Rattle.mls_errorplane.specs.Checkings.{Checking, IsChecked, check_step, checked_marks, dirtied, opening_checking}
unfoldable pub use Rattle.mls_errorplane.specs.Checkings.{forbids_any}
pub use Rattle.mls_errorplane.specs.DirtyLists.{IsDirtyList, added, area_of, dropped, first_piece_of, most_areas, piece_of, piece_side, rest_above, rest_beside, rests_of, round_all, united}
pub use Rattle.mls_errorplane.specs.EmptyLayouts.{forbids_space}
pub use Rattle.mls_errorplane.specs.ErrorPlanes.{ErrorPlane, HasStepped, ShowsMarks, StandsApart, UnlessDone, checking_of, exceeds, marks_picture, stepped_of}
pub use Rattle.mls_errorplane.specs.ErrorsIn.{areas_in}
pub use Rattle.mls_errorplane.specs.MarkPlanes.{is_marked, most_pieces, remarked}
unfoldable pub use Rattle.mls_errorplane.specs.MarkPlanes.{marked_count}
pub use Rattle.mls_errorplane.specs.Outcomes.{HasFinished, IsFresh}
pub use Rattle.mls_errorplane.specs.PaintedMarks.{IsSettled, Paints, ShowsBeside, ShowsSet, space_size}
pub use Rattle.mls_errorplane.specs.Stretches.{AreRight, AreRightIn, AreSound, DropsAll, DropsIn, DropsKnown, DropsTo, IsAlike, IsNext, Stair, Takes, Tells, in_stair, with_rest}
pub use Rattle.mls_errorplane.specs.Violations.{Covers, Violation, listed_violation, squares_in_all, squares_within, strip_count, violation_of}
unfoldable pub use Rattle.mls_errorplane.specs.Violations.{set_strips, violations_in}
pub use Rattle.mls_errorplane.specs.Common.{AgreeOutside, AreBlocks, AreCoveredStrips, AreInArea, ChangesAmong, ChangesOnly, Direction, Directions, EdgeRule, Finding, FitsWorkspace, GainSomeViolations, GainViolations, HasLayout, HasPlane, HasStrips, HaveKinds, IsExact, IsFound, IsRectangleIn, IsRun, IsStrip, IsWithin, LaidTile, Layout, Library, Likeness, Marks, MeetArea, Picture, Piece, Point, Pool, Rect, ShowsAlike, Snapshot, SquareSet, Uses, across, areas_at, block_at, columns, comes_before, comes_first, common, copied_layout, count_of, directions_in, empty_picture, flat_layout, forbidden, forbids, grown, halo_of, has_bit, has_squares, holds, in_block, in_row, is_corner, is_disallowed, is_violated_in, joined, laid, layout_in, like_column, like_row, marks, meets, overlaid, painted, picture_at, picture_in, picture_of, room_of, rows, rule_limit, shown, size_of, squares_of, tile_room, uncovered, violations_of, within, world, zone_of}
unfoldable pub use Rattle.mls_errorplane.specs.Common.{covered_count, reaches, rules_in, square_count, strips_of, tile_count, tiles_of, violated_rules}
pub use Rattle.mls_errorplane.specs.declared.catching_up.CaughtUp.{CaughtUp}
pub use Rattle.mls_errorplane.specs.declared.checked.Checked.{Checked}
pub use Rattle.mls_errorplane.specs.declared.error_plane.Outcome.{Outcome}
pub use Rattle.mls_errorplane.specs.declared.error_plane.Stepped.{Stepped}
pub use Rattle.mls_errorplane.specs.declared.stretch.Stretch.{Stretch}
pub use Rattle.mls_errorplane.specs.declared.stretches.Trial.{Trial}
pub use Rattle.mls_geom.specs.Rects.{clipped}
pub use Rattle.mls_geom.specs.declared.direction.Direction.TheVariants.{Down, Left, Right, Up}
pub use Rattle.mls_layout.specs.declared.likeness.Likeness.TheVariants.{Columns, OneKind, Rows}
