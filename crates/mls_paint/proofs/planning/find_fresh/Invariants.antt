use Rattle.std.proofs.Common.{◌≡◌, map, take, vec_capacity}
use Rattle.mls_paint.proofs.planning.find_fresh.Given as goal

abbrev pub invariant-loop-tile : goal.invariant-loop-tile
invariant-loop-tile l = record {
  items : l.touched.items ≡ map (λ tile. tile.piece) (take l.tile-index l.tiles);
  room : vec_capacity l.touched ≡ vec_capacity l.fn.touched;
}
