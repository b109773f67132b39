use Rattle.std.proofs.Common.{◌-◌, ap, ◌∙◌, arith}
use Rattle.mls_geom.specs.Rects.{Rect}
use Rattle.mls_checker.specs.MarkMaps.{mapped}
use Rattle.mls_checker.proofs.AlikeRows.{alike-run}
use Rattle.mls_checker.proofs.RowRuns.{mapped-lines, rise-more}
use Rattle.mls_checker.proofs.runs.end_of_rise.Goals as goal
use Rattle.mls_checker.proofs.runs.end_of_rise.Goals.{else-not-is_alike-via-then-not-is_alike+else-not-has_run, else-not-is_alike-via-else-not-is_alike}

pub has_run-requires-clause-first : goal.has_run-requires-clause-first
has_run-requires-clause-first c =
    let run = c.loop-other.invariant (c.loop-other.other - 1) (omega (arith, c.loop-other.auto.other)) (omega (arith, c.loop-other.auto.other)) in
    (mapped-lines c.args.map.now c.args.left (c.loop-other.other - 1) (run.all c.args.left (omega arith) run.some)).0

pub has_run-requires-clause-last : goal.has_run-requires-clause-last
has_run-requires-clause-last c =
    let run = c.loop-other.invariant (c.loop-other.other - 1) (omega (arith, c.loop-other.auto.other)) (omega (arith, c.loop-other.auto.other)) in
    (mapped-lines c.args.map.now c.args.left (c.loop-other.other - 1) (run.all c.args.left (omega arith) run.some)).1

pub loop-other-preserved : goal.loop-other-preserved
loop-other-preserved c =
    let set = mapped c.args.map.now in
    let other = c.loop-other.other in
    let run = c.loop-other.invariant (other - 1) (omega (arith, c.loop-other.auto.other)) (omega (arith, c.loop-other.auto.other)) in
    rise-more set c.args.left c.args.right c.args.row other c.loop-other.invariant (elim c.else-not-is_alike.branch [
      | else-not-is_alike-via-then-not-is_alike+else-not-has_run w ↦ w.has_run.ensures.has w.if-not-has_run.false
      | else-not-is_alike-via-else-not-is_alike w ↦ alike-run set (other - 1) other c.args.left c.args.right (c.is_alike.ensures.alike w.if-not-is_alike.false) run
    ])

pub returns-clause-rise : goal.returns-clause-rise
returns-clause-rise c =
    let top = ap (λ (e : Rect). e.top) (c.top.view_is ∙ c.area.ensures.value ∙ c.rect.ensures.value) in
    record {
      tall = omega (arith, top, c.requires.before);
      rows = λ y on before. c.loop-other.invariant y on (omega (arith, before));
      ends = λ run.
          let lines = mapped-lines c.args.map.now c.args.left _ (run.all c.args.left (omega arith) c.requires.run.some) in
          absurd (omega (arith, top, lines.3));
    }
