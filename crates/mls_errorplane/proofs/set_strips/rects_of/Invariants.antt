use Rattle.std.proofs.Common.{◌≡◌, map, take}
use Rattle.mls_errorplane.proofs.set_strips.rects_of.Given as goal

-- the rectangles of the pieces so far
abbrev pub invariant-loop-piece : goal.invariant-loop-piece
invariant-loop-piece l = l.rects.items ≡ map (λ piece. piece.rect) (take l.piece-index l.pieces)
