use Rattle.mls_geom.proofs.Common.{take, All}
use Rattle.mls_geom.proofs.Definitions.{HaveKinds, IsRectangleIn, AreLegal}
use Rattle.mls_geom.proofs.pieces.bounds.Given as goal

abbrev pub invariant-loop-piece : goal.invariant-loop-piece
invariant-loop-piece l = record {
  within : All (λ piece. IsRectangleIn l.bounds piece.rect) (take l.piece-index l.pieces);
  legal : AreLegal (take l.piece-index l.pieces);
  kinds : HaveKinds (take l.piece-index l.pieces);
}
