use Rattle.std.proofs.Common.{◌≡◌, ◌≤◌, map, take, vec_len, vec_capacity}
use Rattle.mls_paint.proofs.changes.list_names.Given as goal

abbrev pub invariant-loop-tile : goal.invariant-loop-tile
invariant-loop-tile l = record {
  items : l.names.items ≡ map (λ tile. tile.id) (take l.tile-index l.tiles);
  len : vec_len l.names ≤ l.tile-index;
  room : vec_capacity l.names ≡ vec_capacity l.fn.names;
}
