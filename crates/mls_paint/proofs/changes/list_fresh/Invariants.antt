use Rattle.std.proofs.Common.{◌≡◌, ◌≤◌, take, vec_len, vec_capacity}
use Rattle.mls_paint.specs.Changes.{put_of}
use Rattle.mls_paint.proofs.changes.list_fresh.Given as goal

abbrev pub invariant-loop-strip : goal.invariant-loop-strip
invariant-loop-strip l = record {
  items : l.fresh.items ≡ put_of (take l.strip-index l.strips) l.touched;
  len : vec_len l.fresh ≤ l.strip-index;
  room : vec_capacity l.fresh ≡ vec_capacity l.fn.fresh;
}
