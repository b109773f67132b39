-- The bounds have the pieces that were passed.
use Rattle.std.proofs.Common.{take}
use Rattle.mls_stitch.specs.Gathering.{EnclosePieces}
use Rattle.mls_stitch.proofs.bounds.bounds_of_pieces.Given as goal

abbrev pub invariant-loop-piece : goal.invariant-loop-piece
invariant-loop-piece l = EnclosePieces l.bounds (take l.piece-index l.pieces)
