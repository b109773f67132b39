-- The bounds have the tiles that were passed.
use Rattle.std.proofs.Common.{take}
use Rattle.mls_stitch.proofs.Common.{tiles_of, EncloseBlocks, block_at}
use Rattle.mls_stitch.proofs.bounds.bounds_of_tiles.Given as goal

abbrev pub invariant-loop-id : goal.invariant-loop-id
invariant-loop-id l = EncloseBlocks (block_at (tiles_of l.pool l.owner)) l.bounds (take l.id-index l.ids)
