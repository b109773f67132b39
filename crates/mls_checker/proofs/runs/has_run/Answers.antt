use Rattle.std.proofs.Common.{ap, ◌∙◌, arith}
use Rattle.mls_geom.specs.Rects.{Rect}
use Rattle.mls_checker.specs.MarkMaps.{mapped}
use Rattle.mls_checker.proofs.RowRuns.{next-begins}
use Rattle.mls_checker.proofs.runs.has_run.Goals as goal

pub returns-else-start-left-clause-hasnt : goal.returns-else-start-left-clause-hasnt
returns-else-start-left-clause-hasnt c is run =
    let first = ap (λ (e : Rect). e.left) (c.first.view_is ∙ c.area.ensures.value ∙ c.rect.ensures.value) in
    let same = next-begins (mapped c.args.map.now) c.args.row c.max.result c.args.left c.args.right c.in-Some.start c.in-Some.end (omega (arith, c.max.ensures, first, c.requires.first))
    (omega (arith, c.max.ensures)) c.in-Some.ensures.some run in
    absurd (omega (arith, same))
