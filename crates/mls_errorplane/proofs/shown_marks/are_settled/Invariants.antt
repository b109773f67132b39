-- the tiles so far are settled
use Rattle.std.proofs.Common.{All, take}
use Rattle.mls_errorplane.proofs.Common.{IsSettled, marks}
use Rattle.mls_errorplane.proofs.shown_marks.are_settled.Given as goal

abbrev pub invariant-loop-tile : goal.invariant-loop-tile
invariant-loop-tile l = All (IsSettled l.fn.found.rect (marks l.fn.found)) (take l.tile-index l.tiles)
