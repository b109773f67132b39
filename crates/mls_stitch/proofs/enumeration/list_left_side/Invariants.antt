-- The side is listed up to the line.
use Rattle.std.proofs.Common.{◌≡◌, ◌-◌, ◌≤◌, vec_capacity}
use Rattle.mls_stitch.proofs.Common.{tiles_of, IsSideListedTo, block_at}
use Rattle.mls_stitch.proofs.enumeration.list_left_side.Given as goal

abbrev pub invariant-side : goal.invariant-side
invariant-side l = record {
  listed : IsSideListedTo (block_at (tiles_of l.pool l.owner)) l.fn.area l.list.items l.line;
  low : l.fn.area.bottom ≤ l.line;
  room : vec_capacity l.list ≡ vec_capacity l.initial.list;
}

abbrev pub decreases-side : goal.decreases-side
decreases-side l = l.bounds-inside.top - l.line
