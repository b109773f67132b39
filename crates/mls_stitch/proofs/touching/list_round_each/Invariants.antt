use Rattle.std.proofs.Common.{◌≡◌, IfSome, take, vec_capacity}
use Rattle.mls_stitch.proofs.Common.{tiles_of, block_at, HasTouched}
use Rattle.mls_stitch.proofs.TouchedTiles.{IsPassed}
use Rattle.mls_stitch.proofs.touching.list_round_each.Given as goal

abbrev pub invariant-loop-piece : goal.invariant-loop-piece
invariant-loop-piece l = record {
  touched : HasTouched (block_at (tiles_of l.pool l.owner)) (take l.piece-index l.over) l.entries.items;
  last : IfSome l.last (IsPassed (take l.piece-index l.over));
  found_room : vec_capacity l.found ≡ vec_capacity l.initial.found;
  entries_room : vec_capacity l.entries ≡ vec_capacity l.initial.entries;
}
