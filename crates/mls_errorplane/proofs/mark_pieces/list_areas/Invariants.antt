use Rattle.std.proofs.Common.{◌≡◌, ◌+◌, ◌≤◌, length, take, vec_capacity}
use Rattle.mls_errorplane.proofs.Common.{Paints, squares_of}
use Rattle.mls_errorplane.proofs.mark_pieces.list_areas.Given as goal

-- the pieces mark the squares that the part has of the areas so far
abbrev pub invariant-loop-area : goal.invariant-loop-area
invariant-loop-area l = record {
  painted : Paints l.pieces.items l.fn.part (squares_of (take l.area-index l.areas));
  few : length l.pieces.items ≤ length l.fn.pieces.items + l.area-index;
  room : vec_capacity l.pieces ≡ vec_capacity l.fn.pieces;
}
