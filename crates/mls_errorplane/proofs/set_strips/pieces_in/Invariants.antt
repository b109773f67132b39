use Rattle.std.proofs.Common.{take}
use Rattle.mls_errorplane.proofs.Common.{Covers, laid, squares_within}
use Rattle.mls_errorplane.proofs.set_strips.pieces_in.Given as goal

-- the pieces cover the squares of the areas so far
abbrev pub invariant-loop-area : goal.invariant-loop-area
invariant-loop-area l = Covers (laid l.pieces.items) (squares_within l.fn.rect (take l.area-index l.areas))
