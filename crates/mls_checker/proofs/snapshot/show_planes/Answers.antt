use Rattle.std.proofs.Common.{below_more, refl, ap, ◌∙◌, arith}
use Rattle.std.proofs.lemmas.Bool.{false≢true}
use Rattle.mls_geom.specs.Layouts.{Layout}
use Rattle.mls_checker.proofs.FlatPlanes.{copy-at, flat-by_copies}
use Rattle.mls_checker.proofs.snapshot.show_planes.Goals as goal

pub returns-then-not-is_shown-clause-same : goal.returns-then-not-is_shown-clause-same
returns-then-not-is_shown-clause-same c =
    let so_far = c.loop-index.invariant in
    let copy = copy-at c.args.workspace.now.pool c.loop-index.workspace.pool c.args.uses.now c.args.planes.now c.args.zone c.args.copies.now c.loop-index.index
    c.index-copies-index.result c.index-planes-index.result so_far.pool c.requires.count (omega (arith, c.loop-index-test.true)) c.index-copies-index.is c.index-planes-index.is in
    let compared = c.if-not-is_shown.ensures.same in
    (λ h. absurd (false≢true h), λ same. compared.1 (copy.1 (ap (λ (layout : Layout). layout c.loop-index.index) same)))

pub loop-index-preserved : goal.loop-index-preserved
loop-index-preserved c =
    let so_far = c.loop-index.invariant in
    let copy = copy-at c.args.workspace.now.pool c.loop-index.workspace.pool c.args.uses.now c.args.planes.now c.args.zone c.args.copies.now c.loop-index.index
    c.index-copies-index.result c.index-planes-index.result so_far.pool c.requires.count (omega (arith, c.loop-index-test.true)) c.index-copies-index.is c.index-planes-index.is in
    let compared = c.if-not-is_shown.ensures.same in
    record {
      copies = below_more _ _ so_far.copies (copy.0 (compared.0 refl));
      pool = c.is_shown.ensures.pool ∙ so_far.pool;
    }

pub returns-clause-same : goal.returns-clause-same
returns-clause-same c =
    let copies = c.args.copies.now in
    let owners = c.args.planes.now in
    let so_far = c.loop-index.invariant in (
      λ _. flat-by_copies c.args.workspace.now.pool c.args.uses.now owners c.args.zone copies c.requires.layout.cells c.requires.count
          (λ plane below. so_far.copies plane (omega (arith, below, c.requires.count, c.loop-index-test.false))),
      λ _. refl,
    )
