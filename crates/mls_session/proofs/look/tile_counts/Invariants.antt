use Rattle.std.proofs.Common.{◌≡◌, length, vec_capacity}
use Rattle.mls_session.proofs.Common.{layout_in, tile_counts}
use Rattle.mls_session.proofs.look.tile_counts.Given as goal

-- the planes so far are counted
abbrev pub invariant-loop-plane : goal.invariant-loop-plane
invariant-loop-plane l = record {
  counts : l.counts.items ≡ tile_counts l.plane-index (layout_in l.pool l.planes);
  count : length l.counts.items ≡ l.plane-index;
  reserved : vec_capacity l.counts ≡ length l.planes;
}
