use Rattle.std.proofs.Common.{◌≡◌, take, vec_len, vec_capacity}
use Rattle.mls_stitch.proofs.stitching.list_all.Given as goal

abbrev pub invariant-loop-tile : goal.invariant-loop-tile
invariant-loop-tile l = record {
  each : l.list.items ≡ take l.tile-index l.tiles;
  len : vec_len l.list ≡ l.tile-index;
  room : vec_capacity l.list ≡ vec_capacity l.initial.list;
}
