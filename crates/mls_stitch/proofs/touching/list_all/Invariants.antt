use Rattle.std.proofs.Common.{◌≡◌, ◌+◌, ◌++◌, take, vec_len, vec_capacity}
use Rattle.mls_stitch.proofs.touching.list_all.Given as goal

abbrev pub invariant-loop-tile : goal.invariant-loop-tile
invariant-loop-tile l = record {
  listed : l.list.items ≡ l.initial.list.items ++ take l.tile-index l.found;
  len : vec_len l.list ≡ vec_len l.initial.list + l.tile-index;
  room : vec_capacity l.list ≡ vec_capacity l.initial.list;
}
