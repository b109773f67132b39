-- Each piece that was passed stays within the bounds as they grow.
use Rattle.mls_stitch.proofs.Common.{take_all, IsWithin, Piece}
use Rattle.mls_geom.proofs.JoinedRects.{IsWithin-joined, IsWithin-joined_itself}
use Rattle.mls_stitch.proofs.Gathered.{within_next}
use Rattle.mls_stitch.proofs.bounds.bounds_of_pieces.Goals as goal

pub loop-piece-preserved : goal.loop-piece-preserved
loop-piece-preserved c =
    let bounds = c.loop-piece.bounds in
    let piece = c.piece-item.result in
    within_next (λ b (p : Piece). IsWithin b p.rect) bounds piece.rect c.joined-bounds.result c.args.pieces.now c.loop-piece.piece-index piece c.joined-bounds.ensures c.loop-piece-test.true
    c.piece-item.is (λ p inside. IsWithin-joined bounds piece.rect p.rect inside) (IsWithin-joined_itself bounds piece.rect) c.loop-piece.invariant

pub returns-clause-round : goal.returns-clause-round
returns-clause-round c = rw (take_all c.loop-piece.piece-index c.args.pieces.now c.loop-piece-test.false) at c.loop-piece.invariant
