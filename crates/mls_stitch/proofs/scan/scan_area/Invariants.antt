-- Each tile of the area is listed, or is not passed yet.
use Rattle.std.proofs.Common.{◌≡◌, ◌+◌, ◌≤◌, length, All, vec_len, vec_capacity}
use Rattle.mls_stitch.proofs.Common.{count_of, tiles_of, IsFound, block_at}
use Rattle.mls_stitch.proofs.Gathered.{AreMetBefore}
use Rattle.mls_stitch.proofs.scan.scan_area.Given as goal

abbrev pub invariant-loop-id : goal.invariant-loop-id
invariant-loop-id l = record {
  each : All (IsFound (block_at (tiles_of l.pool l.owner)) l.area) l.list.items;
  before : AreMetBefore (block_at (tiles_of l.pool l.owner)) l.area l.list.items l.id-iterator;
  few : vec_len l.list + length l.id-iterator ≤ count_of l.pool l.owner;
  room : vec_capacity l.list ≡ vec_capacity l.initial.list;
}
