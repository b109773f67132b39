use Rattle.std.proofs.Common.{◌≡◌, map, take, vec_capacity}
use Rattle.mls_errorplane.specs.Carrying.{piece_like}
use Rattle.mls_errorplane.proofs.carrying.list_parts.Given as goal

-- a piece for each of the tiles so far
abbrev pub invariant-loop-tile : goal.invariant-loop-tile
invariant-loop-tile l = record {
  pieces : l.pieces.items ≡ map (piece_like l.fn.likeness l.fn.rect) (take l.tile-index l.tiles);
  room : vec_capacity l.pieces ≡ vec_capacity l.fn.pieces;
}
