-- The children of the tiles before the index are listed.
use Rattle.std.proofs.Common.{◌≡◌, ◌-◌, ◌≤◌, vec_capacity, vec_len}
use Rattle.mls_stitch.proofs.Common.{world, tiles_of, IsListedTo, block_at}
use Rattle.mls_stitch.proofs.enumeration.list_tiles.Given as goal

abbrev pub invariant-tiles : goal.invariant-tiles
invariant-tiles l = record {
  listed : IsListedTo (block_at (tiles_of l.pool l.owner)) l.area l.list.items l.index world.top;
  within : l.index ≤ vec_len l.list;
  room : vec_capacity l.list ≡ vec_capacity l.initial.list;
}

abbrev pub decreases-tiles : goal.decreases-tiles
decreases-tiles l = vec_capacity l.list - l.index
