-- One plan more has its room.
use Rattle.std.proofs.Common.{◌≡◌, subst, sym, arith}
use Rattle.std.specs.List.{All}
use Rattle.std.proofs.lemmas.List.Elements.{All-push}
use Rattle.mls_paint.specs.Plans.{Plan}
use Rattle.mls_paint.proofs.plans.new_plans.Goals as goal

pub loop-preserved : goal.loop-preserved
loop-preserved c =
    let so_far = c.loop.invariant in
    let made = c.in_ok-new.ensures in
    let pushed = sym c.push_reserved.ensures.items in
    let has_room = λ (plan : Plan). plan.room ≡ c.args.room in
    let has_pieces = λ (plan : Plan). plan.pieces ≡ c.args.pieces in
    record {
      count = omega (arith, c.push_reserved.ensures.len, so_far.count);
      rooms = subst (All has_room) pushed (All-push has_room _ _ so_far.rooms made.room);
      pieces = subst (All has_pieces) pushed (All-push has_pieces _ _ so_far.pieces made.pieces);
      reserved = omega (arith, c.push_reserved.ensures.capacity, so_far.reserved);
    }
