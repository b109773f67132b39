use Rattle.std.proofs.Common.{◌≡◌, take, vec_capacity}
use Rattle.mls_stitch.proofs.Common.{tiles_of, Surround, block_at}
use Rattle.mls_stitch.proofs.AroundTiles.{IsLostBefore, IsOneOrPart}
use Rattle.mls_stitch.proofs.around.list_round_lost.Given as goal

abbrev pub invariant-loop-id : goal.invariant-loop-id
invariant-loop-id l = record {
  around : Surround (block_at (tiles_of l.pool l.owner)) l.keys (IsLostBefore (block_at (tiles_of l.pool l.owner)) l.replacement.touched.now l.replacement.fresh.now l.id-index) l.entries.items;
  index : l.index ≡ l.id-index;
  found_room : vec_capacity l.found ≡ vec_capacity l.initial.found;
  entries_room : vec_capacity l.entries ≡ vec_capacity l.initial.entries;
}

abbrev pub invariant-loop-part : goal.invariant-loop-part
invariant-loop-part l = record {
  around : Surround (block_at (tiles_of l.pool l.owner)) l.keys
      (IsOneOrPart (IsLostBefore (block_at (tiles_of l.pool l.owner)) l.replacement.touched.now l.replacement.fresh.now l.id-index) (take l.part-index l.part-items)) l.entries.items;
  found_room : vec_capacity l.found ≡ vec_capacity l.initial.found;
  entries_room : vec_capacity l.entries ≡ vec_capacity l.initial.entries;
}
