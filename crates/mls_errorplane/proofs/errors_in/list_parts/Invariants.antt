use Rattle.std.proofs.Common.{◌≡◌, ◌∷◌, take, vec_capacity, filter_map}
use Rattle.mls_geom.specs.World.{world}
use Rattle.mls_errorplane.specs.ErrorsIn.{marked_part}
use Rattle.mls_errorplane.proofs.errors_in.list_parts.Given as goal

-- the world's space, and the parts of the tiles so far
abbrev pub invariant-loop-tile : goal.invariant-loop-tile
invariant-loop-tile l = record {
  pieces : l.pieces.items ≡ record { rect = world; kind = 0 } ∷ filter_map (marked_part l.fn.rect) (take l.tile-index l.tiles);
  room : vec_capacity l.pieces ≡ vec_capacity l.fn.pieces;
}
