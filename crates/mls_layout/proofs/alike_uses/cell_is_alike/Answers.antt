use Rattle.std.proofs.Common.{ℕ, ◌<◌, List, get_or, length, refl, ap, subst, ◌∙◌, arith}
use Rattle.std.proofs.lemmas.List.{take_all}
use Rattle.std.proofs.lemmas.List.Elements.{All-more}
use Rattle.mls_tilepool.specs.Pools.{Pool}
use Rattle.mls_paint.specs.Planes.{picture_in}
use Rattle.mls_layout.specs.Inner.{in_world}
use Rattle.mls_layout.specs.Likenesses.{ShowsAlike}
use Rattle.mls_layout.specs.Moves.{moved_picture}
use Rattle.mls_layout.proofs.alike_uses.cell_is_alike.Goals as goal

pub loop-plane-preserved : goal.loop-plane-preserved
loop-plane-preserved c =
    let planes = c.args.cell.now.planes in
    let index = c.loop-plane.plane-index in
    let owner = c.plane-item.result in
    let so_far = c.loop-plane.invariant in
    let P : Pool → ℕ → Type 0 = λ pool owner. ShowsAlike c.args.zone.now.likeness c.args.zone.now.halo c.args.zone.now.rect (in_world (moved_picture (picture_in pool owner) c.args.cell_use.now.dx c.args.cell_use.now.dy)) in
    let here = subst (λ (pool : Pool). P pool owner) so_far.pool (c.if-not-plane_is_alike.ensures.alike refl) in
    let within : index < length planes = omega (arith, c.loop-plane-test.true, ap length c.planes-plane-items.ensures) in
    let is = c.plane-item.is ∙ ap (λ (list : List ℕ). get_or list index owner) c.planes-plane-items.ensures in
    record {
      each = All-more (P c.args.workspace.now.pool) planes index owner within so_far.each (subst (P c.args.workspace.now.pool) is here);
      pool = c.plane_is_alike.ensures.pool ∙ so_far.pool;
    }

pub returns-clause-alike : goal.returns-clause-alike
returns-clause-alike c = λ _.
    rw (take_all c.loop-plane.plane-index c.args.cell.now.planes (omega (arith, c.loop-plane-test.false, ap length c.planes-plane-items.ensures))) at c.loop-plane.invariant.each
