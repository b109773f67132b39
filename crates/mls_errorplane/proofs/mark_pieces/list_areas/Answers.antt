use Rattle.std.proofs.Common.{take, ◌∙◌, arith}
use Rattle.mls_checker.specs.Marking.{squares_of}
use Rattle.mls_errorplane.proofs.PaintedAreas.{Paints-next}
use Rattle.mls_errorplane.proofs.mark_pieces.list_areas.Goals as goal

pub loop-area-preserved : goal.loop-area-preserved
loop-area-preserved c =
    let so_far = c.loop-area.invariant in
    record {
      painted = Paints-next c.push_part.new.pieces.items c.args.part c.area-item.result c.args.areas.now c.loop-area.area-index c.loop-area-test.true c.area-item.is
          (c.push_part.ensures.painted (squares_of (take c.loop-area.area-index c.args.areas.now)) so_far.painted);
      few = omega (arith, c.push_part.ensures.few, so_far.few);
      room = c.push_part.ensures.room ∙ so_far.room;
    }
