use Rattle.std.proofs.Common.{ℕ, refl, subst, ◌∙◌}
use Rattle.std.proofs.lemmas.List.{take_all}
use Rattle.std.proofs.lemmas.List.Elements.{All-more}
use Rattle.mls_tilepool.specs.Pools.{Pool}
use Rattle.mls_layout.specs.Likenesses.{ShowsAlike}
use Rattle.mls_layout.specs.Uses.{cell_layouts, use_layout}
use Rattle.mls_layout.specs.declared.uses.CellUse.{CellUse}
use Rattle.mls_layout.proofs.AlikeUses.{ShowsAlike-uses}
use Rattle.mls_layout.proofs.alike_uses.each_is_alike.Goals as goal

pub loop-index-preserved : goal.loop-index-preserved
loop-index-preserved c =
    let pool = c.args.workspace.now.pool in
    let cell_use = c.cell_use-item.result in
    let so_far = c.loop-index.invariant in
    let P : Pool → CellUse → Type 0 = λ pool cell_use. (plane : ℕ) → ShowsAlike c.args.zone.now.likeness c.args.zone.now.halo c.args.zone.now.rect (use_layout (cell_layouts pool c.args.uses.now.library.now) cell_use plane) in
    let here = subst (λ (pool : Pool). P pool cell_use) so_far.pool (c.if-not-use_is_alike.ensures.alike refl) in
    record {
      each = All-more (P pool) c.args.uses.now.list.now c.loop-index.index cell_use c.loop-index-test.true so_far.each (subst (P pool) c.cell_use-item.is here);
      pool = c.use_is_alike.ensures.pool ∙ so_far.pool;
    }

pub returns-clause-alike : goal.returns-clause-alike
returns-clause-alike c = λ _.
    let list = c.args.uses.now.list.now in
    ShowsAlike-uses c.args.zone.now.likeness c.args.zone.now.halo c.args.zone.now.rect (cell_layouts c.args.workspace.now.pool c.args.uses.now.library.now) list
    (rw (take_all c.loop-index.index list c.loop-index-test.false) at c.loop-index.invariant.each)
