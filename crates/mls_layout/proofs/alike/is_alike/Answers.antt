use Rattle.std.proofs.Common.{ℕ, subst, refl}
use Rattle.mls_tilepool.specs.Pools.{Pool}
use Rattle.mls_layout.specs.Likenesses.{ShowsAlike}
use Rattle.mls_layout.specs.Uses.{cell_layouts, uses_layout}
use Rattle.mls_layout.proofs.AlikeUses.{ShowsAlike-layout}
use Rattle.mls_layout.proofs.alike.is_alike.Goals as goal

pub returns-then-planes_are_alike-clause-alike : goal.returns-then-planes_are_alike-clause-alike
returns-then-planes_are_alike-clause-alike c = λ yes.
    let uses = c.args.uses.now in
    ShowsAlike-layout c.args.likeness c.args.halo c.args.rect c.args.workspace.now.pool uses c.args.planes.now (c.if-planes_are_alike.ensures.each refl)
    (subst (λ (pool : Pool). (plane : ℕ) → ShowsAlike c.args.likeness c.args.halo c.args.rect (uses_layout (cell_layouts pool uses.library.now) uses.list.now plane))
    c.planes_are_alike.ensures.pool (c.uses_are_alike.ensures.alike yes))
