use Rattle.std.proofs.Common.{◌≡◌, ℕ, Option, All}
use Rattle.mls_stitch.proofs.Common.{Piece, count_of, tiles_of, AreInPlace, ChangesOnly, IsLaid}
use Rattle.mls_stitch.proofs.SewnTiles.{ArePartlySewn}
use Rattle.mls_stitch.proofs.stitching.stitch_sides.Given as goal

abbrev pub invariant-loop-tile : goal.invariant-loop-tile
invariant-loop-tile l = record {
  sewn : (blocks : ℕ → Option Piece) → AreInPlace (tiles_of l.fn.pool l.owner) blocks → All (IsLaid blocks) l.tiles → All (IsLaid blocks) l.fresh
      → ArePartlySewn (tiles_of l.fn.pool l.owner) (tiles_of l.pool l.owner) blocks l.stitch l.tiles l.fresh l.tile-index;
  same : count_of l.pool l.owner ≡ count_of l.fn.pool l.owner;
  only : ChangesOnly l.fn.pool l.pool l.owner;
}
