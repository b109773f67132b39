use Rattle.std.proofs.Common.{◌≡◌, ◌+◌, length, take, vec_len, vec_capacity}
use Rattle.mls_stitch.proofs.Common.{tiles_of, Lays, ChangesOnly}
use Rattle.mls_stitch.proofs.place.place_again.Given as goal

abbrev pub invariant-loop-id : goal.invariant-loop-id
invariant-loop-id l = record {
  laid : Lays (tiles_of l.initial.pool l.owner) (tiles_of l.pool l.owner) (take (length l.yielded) l.ids) (take (length l.yielded) l.pieces) l.initial.entries.items l.entries.items;
  only : ChangesOnly l.initial.pool l.pool l.owner;
  len : vec_len l.entries ≡ vec_len l.initial.entries + length l.yielded;
  room : vec_capacity l.entries ≡ vec_capacity l.initial.entries;
}
