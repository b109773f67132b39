use Rattle.std.proofs.Common.{◌≡◌, ◌+◌, [], take, vec_len, vec_capacity}
use Rattle.mls_stitch.proofs.Common.{tiles_of, Lays, ChangesOnly}
use Rattle.mls_stitch.proofs.place.place_all.Given as goal

abbrev pub invariant-loop-piece : goal.invariant-loop-piece
invariant-loop-piece l = record {
  laid : Lays (tiles_of l.initial.pool l.owner) (tiles_of l.pool l.owner) [] (take l.piece-index l.pieces) l.initial.entries.items l.entries.items;
  only : ChangesOnly l.initial.pool l.pool l.owner;
  len : vec_len l.entries ≡ vec_len l.initial.entries + l.piece-index;
  room : vec_capacity l.entries ≡ vec_capacity l.initial.entries;
}
