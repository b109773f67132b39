use Rattle.std.proofs.Common.{◌≡◌, map, take, vec_capacity}
use Rattle.mls_layout.proofs.workspace.list_pieces_of.Given as goal

-- the tiles so far are listed
abbrev pub invariant-loop-tile : goal.invariant-loop-tile
invariant-loop-tile l = record {
  pieces : l.pieces.items ≡ map (λ tile. tile.piece) (take l.tile-index l.tiles);
  room : vec_capacity l.pieces ≡ vec_capacity l.fn.pieces;
}
