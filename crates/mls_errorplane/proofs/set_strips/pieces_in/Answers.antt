use Rattle.mls_errorplane.proofs.SetStrips.{Covers-next}
use Rattle.mls_errorplane.proofs.set_strips.pieces_in.Goals as goal

pub loop-area-preserved : goal.loop-area-preserved
loop-area-preserved c =
    Covers-next c.loop-area.pieces.items c.push_piece.new.pieces.items c.args.rect c.area-item.result c.args.areas.now c.loop-area.area-index c.loop-area-test.true c.area-item.is
    c.in_ok-push_piece.ensures c.loop-area.invariant
