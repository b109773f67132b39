use Rattle.std.proofs.Common.{◌≡◌, take, sum_by}
use Rattle.mls_errorplane.specs.PaintedMarks.{marked_part}
use Rattle.mls_errorplane.proofs.marks.marked_in.Given as goal

-- the marked squares of the tiles so far
abbrev pub invariant-loop-tile : goal.invariant-loop-tile
invariant-loop-tile l = l.count ≡ sum_by (marked_part l.fn.rect) (take l.tile-index l.tile-items)
