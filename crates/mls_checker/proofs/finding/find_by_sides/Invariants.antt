-- the piece is a rectangle of the world; and once what was reached is marked, the marks are what the rules scanned so far forbid
use Rattle.std.proofs.Common.{◌≡◌, ◌&&◌, ℕ, take}
use Rattle.mls_geom.specs.Rects.{IsRectangleIn, holds}
use Rattle.mls_geom.specs.World.{world}
use Rattle.mls_checker.specs.Copies.{copied_layout}
use Rattle.mls_checker.specs.Grids.{with_unmarked}
use Rattle.mls_checker.proofs.FoundSquares.{forbidden_by_some}
use Rattle.mls_checker.proofs.finding.find_by_sides.Given as goal

abbrev pub invariant-loop-rule : goal.invariant-loop-rule
invariant-loop-rule l = record {
  legal : IsRectangleIn world l.fn.piece;
  of_piece : l.sink.grid.rect ≡ l.fn.piece;
  marked : (x y : ℕ) → with_unmarked l.sink.grid l.sink.check_plane l.sink.ok_types (copied_layout l.fn.snapshot) x y
      ≡ (holds l.fn.piece x y && forbidden_by_some (take l.rule-index l.rule-items) (copied_layout l.fn.snapshot) l.area x y);
}
