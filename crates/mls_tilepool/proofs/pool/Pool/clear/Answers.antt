use Rattle.std.proofs.Common.{get_or, None, is_some, refl, ap, ◌∙◌, arith}
use Rattle.mls_tilepool.proofs.pool.Pool.clear.Goals as goal

pub loop-id-init : goal.loop-id-init
loop-id-init c = record { rooms = refl; capacity = refl; others = λ other differs. refl }

pub first-requires : goal.first-requires
first-requires c = ap (λ rooms. is_some (get_or rooms c.args.owner.now None)) c.loop-id.invariant.rooms ∙ c.requires

pub loop-id-smaller : goal.loop-id-smaller
loop-id-smaller c = omega (arith, c.remove.ensures.count)

pub loop-id-preserved : goal.loop-id-preserved
loop-id-preserved c =
    let changes = c.remove.ensures.changes in
    let kept = c.loop-id.invariant in
    record {
      rooms = changes.rooms ∙ kept.rooms;
      capacity = changes.capacity ∙ kept.capacity;
      others = λ other differs. changes.others other differs ∙ kept.others other differs;
    }
