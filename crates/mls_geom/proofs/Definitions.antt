-- The definitions of this crate that most proofs cite, passed on from one place. Declares nothing.
pub use Rattle.mls_geom.specs.Directions.{across, back, deepened, shifted}
pub use Rattle.mls_geom.specs.Locality.{AreCoveredStrips, AreUnorderedStrips, AreUntouched, HaveKinds, is_covered_corner, is_touched, laid, touches, uncovered}
unfoldable pub use Rattle.mls_geom.specs.Locality.{covered_count}
pub use Rattle.mls_geom.specs.Pictures.{Picture, columns, empty_picture, overlaid, painted, picture_of, rows, shows}
pub use Rattle.mls_geom.specs.Rects.{IsRectangleIn, IsWithin, Point, Rect, holds, joined, meets}
pub use Rattle.mls_geom.specs.StripLists.{has_run_of, rows_end}
unfoldable pub use Rattle.mls_geom.specs.StripLists.{strip_from, strips_of}
pub use Rattle.mls_geom.specs.Strips.{AreStrips, IsRun, IsStrip, comes_before}
pub use Rattle.mls_geom.specs.Sweep.ActivePieces.{AddsStarted, ArePartedAt, AreStarts, EndsFrom, HasPiece, NamesPiece, StartsBelow, ends_above}
pub use Rattle.mls_geom.specs.Sweep.BandLines.{AreBandLines, HaveEnds, HaveEndsOf, IsLineOf}
pub use Rattle.mls_geom.specs.Sweep.Chains.{Each, Hides, IsChain, IsChainOf, IsFalling, IsFront, IsFrontTo, IsHiddenBy, IsSplitAt, IsStaircase, entry_at, linked, outliving, rank_of, stepped, under_of, unlinked}
pub use Rattle.mls_geom.specs.Sweep.Changing.{AreInOrder, AreMet, AreRunsBefore, HasSquare, IsBand, IsChange, IsChangeOf, IsChanging, IsClear, IsEnd, IsPartlyStacked, ShowsSlots, begins_by, corner_at, corners_between, ends_before, runs_of, staged, strip_of}
pub use Rattle.mls_geom.specs.Sweep.Events.{AreEvents, ArePlanted, Awaits, HaveChangedTops, IsBefore, IsNext, IsPlanted, bottom_of, is_above, is_below, is_met, line_of, present_after, present_before, top_of}
pub use Rattle.mls_geom.specs.Sweep.Hidden.{ShowAlike}
pub use Rattle.mls_geom.specs.Sweep.KeptRows.{AreMarks, AwaitsChange, HaveChanges, IsKept, IsMarked, ShowsRow, kind_if_covered, lowered, run_of, shown_below, strip_at}
pub use Rattle.mls_geom.specs.Sweep.RowRooms.{HasRowRoom}
pub use Rattle.mls_geom.specs.Sweep.Rows.{AreActive, AreRuns}
pub use Rattle.mls_geom.specs.Sweep.Slots.{AreBetweenLines, AreCuts, AreSlotKinds, HaveBytes, IsBetweenLines}
pub use Rattle.mls_geom.specs.Sweep.Stacks.{AreAlike, AreStacked, NameStrips, ReachesUp, StandsOn, extended, new_strip, up_to}
pub use Rattle.mls_geom.specs.Sweep.SweepRooms.{HasSweepRoom}
pub use Rattle.mls_geom.specs.Sweep.Trees.{Agrees, AreLinked, AreSummedBelow, Bounds, EndsFirst, HasChanged, HasHeight, HasWidth, IsInside, IsLinked, IsRankOf, IsSummed, IsSummedUp, IsTop, IsTree, changed_in, end_of, has_slot, kind_of, kind_shown, lies_in, node_at, node_of, none, segment_at, span_of, with_piece, without_piece}
unfoldable pub use Rattle.mls_geom.specs.Sweep.Trees.{AreSummed, has_node}
pub use Rattle.mls_geom.specs.TileCounts.{goes_on_below, is_corner, run_end, starts_run}
unfoldable pub use Rattle.mls_geom.specs.TileCounts.{tile_count}
pub use Rattle.mls_geom.specs.World.{AreLegal, world}
pub use Rattle.mls_geom.specs.declared.active.Start.{Start}
pub use Rattle.mls_geom.specs.declared.chain.Entry.{Entry}
pub use Rattle.mls_geom.specs.declared.chain.Step.{Step}
pub use Rattle.mls_geom.specs.declared.chain.Step.TheVariants.{Begins, Ends}
pub use Rattle.mls_geom.specs.declared.direction.Direction.{Direction}
pub use Rattle.mls_geom.specs.declared.direction.Direction.TheVariants.{Down, Left, Right, Up}
pub use Rattle.mls_geom.specs.declared.events.Event.{Event}
pub use Rattle.mls_geom.specs.declared.node.Node.{Node}
pub use Rattle.mls_geom.specs.declared.node.Shown.{Shown}
pub use Rattle.mls_geom.specs.declared.node.Shown.TheVariants.{Nothing, One, Several}
pub use Rattle.mls_geom.specs.declared.part.Part.{Part}
pub use Rattle.mls_geom.specs.declared.part.Span.{Span}
pub use Rattle.mls_geom.specs.declared.piece.Piece.{Piece}
pub use Rattle.mls_geom.specs.declared.row.Row.{Row}
pub use Rattle.mls_geom.specs.declared.run.Run.{Run}
pub use Rattle.mls_geom.specs.declared.segment.Segment.{Segment}
pub use Rattle.mls_geom.specs.declared.stopped.Stopped.{Stopped}
pub use Rattle.mls_geom.specs.declared.stopped.Stopped.TheVariants.{GaveUp, TooMany}
pub use Rattle.mls_geom.specs.declared.tree.Tree.{Tree}
