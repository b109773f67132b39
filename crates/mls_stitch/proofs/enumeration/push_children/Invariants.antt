-- The right neighbours of the parent are passed down to the line.
use Rattle.std.proofs.Common.{◌≡◌, ◌≤◌, vec_len, vec_capacity}
use Rattle.mls_stitch.proofs.Common.{tiles_of, first_row, block_at, LaidTile}
use Rattle.mls_stitch.proofs.Listings.{ArePassed}
use Rattle.mls_stitch.proofs.enumeration.push_children.Given as goal

abbrev pub invariant-neighbours : goal.invariant-neighbours
invariant-neighbours l = record {
  passed : (parent : LaidTile) × ArePassed (block_at (tiles_of l.pool l.owner)) l.fn.area l.list.items l.index l.line parent l.next × (l.last_row ≡ first_row l.fn.area parent)
      × (l.sides-inside.top ≡ parent.piece.rect.top);
  longer : vec_len l.initial.list ≤ vec_len l.list;
  room : vec_capacity l.list ≡ vec_capacity l.initial.list;
}

abbrev pub decreases-neighbours : goal.decreases-neighbours
decreases-neighbours l = l.line
