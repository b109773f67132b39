use Rattle.std.proofs.Common.{ℕ, refl, subst, arith}
use Rattle.std.proofs.lemmas.List.{take_all}
use Rattle.std.proofs.lemmas.List.Elements.{All-more}
use Rattle.mls_tilepool.specs.Pools.{Pool}
use Rattle.mls_paint.specs.Planes.{picture_in}
use Rattle.mls_layout.specs.Likenesses.{ShowsAlike}
use Rattle.mls_layout.proofs.alike.planes_are_alike.Goals as goal

pub loop-plane-preserved : goal.loop-plane-preserved
loop-plane-preserved c =
    let zone = c.args.zone.now in
    let so_far = c.loop-plane.invariant in
    let has = λ (pool : Pool) (owner : ℕ). ShowsAlike zone.likeness zone.halo zone.rect (picture_in pool owner) in
    let next = subst (λ (pool : Pool). has pool c.plane-item.result) so_far.pool (c.if-not-shows_alike.ensures.alike refl) in
    record {
      each = All-more (has c.args.workspace.now.pool) c.args.planes.now c.loop-plane.plane-index c.plane-item.result (omega (arith, c.loop-plane-test.true)) so_far.each (rw c.plane-item.is at next);
      pool = so_far.pool;
    }

pub returns-clause-each : goal.returns-clause-each
returns-clause-each c = λ _.
    rw (take_all c.loop-plane.plane-index c.args.planes.now (omega (arith, c.loop-plane-test.false))) at c.loop-plane.invariant.each
