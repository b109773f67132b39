-- The tile that has the square is not passed yet.
use Rattle.std.proofs.Common.{ℕ}
use Rattle.mls_stitch.proofs.Common.{IsSome, tile_in, tiles_of, HoldsAt, block_at}
use Rattle.mls_stitch.proofs.walk.scan.Given as goal

abbrev pub invariant-loop-id : goal.invariant-loop-id
invariant-loop-id l = (key : ℕ) → HoldsAt (block_at (tiles_of l.pool l.owner)) key l.at → IsSome (tile_in l.id-iterator key)
