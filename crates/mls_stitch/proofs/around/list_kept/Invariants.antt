use Rattle.std.proofs.Common.{◌≡◌, ◌≤◌, ◌+◌, ◌++◌, take, vec_len, vec_capacity}
use Rattle.mls_stitch.specs.Placing.{unlisted_of}
use Rattle.mls_stitch.proofs.around.list_kept.Given as goal

abbrev pub invariant-loop-tile : goal.invariant-loop-tile
invariant-loop-tile l = record {
  kept : l.entries.items ≡ l.initial.entries.items ++ unlisted_of l.keys (take l.tile-index l.found);
  len : vec_len l.entries ≤ vec_len l.initial.entries + l.tile-index;
  room : vec_capacity l.entries ≡ vec_capacity l.initial.entries;
}
