use Rattle.std.proofs.Common.{◌≡◌, ℕ, ◌≤◌, Option, All}
use Rattle.mls_stitch.proofs.Common.{Piece, count_of, tiles_of, AreInPlace, ChangesOnly, IsLaid}
use Rattle.mls_stitch.proofs.SewnTiles.{ArePartlyBack}
use Rattle.mls_stitch.proofs.stitching.stitch_side.Given as goal

abbrev pub invariant-loop-rest : goal.invariant-loop-rest
invariant-loop-rest l = record {
  bound : l.rest ≤ l.count;
  led : (blocks : ℕ → Option Piece) → AreInPlace (tiles_of l.fn.pool l.owner) blocks → IsLaid blocks l.tile → All (IsLaid blocks) l.fresh
      → ArePartlyBack (tiles_of l.fn.pool l.owner) (tiles_of l.pool l.owner) blocks l.stitch l.fresh l.rest l.count;
  same : count_of l.pool l.owner ≡ count_of l.fn.pool l.owner;
  only : ChangesOnly l.fn.pool l.pool l.owner;
}

abbrev pub decreases-loop-rest : goal.decreases-loop-rest
decreases-loop-rest l = l.rest
