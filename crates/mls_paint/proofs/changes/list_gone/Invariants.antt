use Rattle.std.proofs.Common.{◌≡◌, ◌≤◌, take, vec_len, vec_capacity}
use Rattle.mls_paint.specs.Changes.{gone_of}
use Rattle.mls_paint.proofs.changes.list_gone.Given as goal

abbrev pub invariant-loop-tile : goal.invariant-loop-tile
invariant-loop-tile l = record {
  items : l.gone.items ≡ gone_of (take l.tile-index l.tiles) l.strips;
  len : vec_len l.gone ≤ l.tile-index;
  room : vec_capacity l.gone ≡ vec_capacity l.fn.gone;
}
