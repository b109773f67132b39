use Rattle.std.proofs.Common.{◌≡◌, take, vec_len, vec_capacity}
use Rattle.mls_stitch.proofs.around.list_keys.Given as goal

abbrev pub invariant-loop-id : goal.invariant-loop-id
invariant-loop-id l = record {
  each : l.keys.items ≡ take l.id-index l.touched;
  len : vec_len l.keys ≡ l.id-index;
  room : vec_capacity l.keys ≡ vec_capacity l.initial.keys;
}
