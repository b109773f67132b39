-- What is shown is compared kind by kind.
use Rattle.mls_geom.proofs.Common.{◌≡◌, ◌≢◌, inl, inr, sym, ◌∙◌, arith, cases_lt}
use Rattle.mls_geom.proofs.ShownRuns.{differ_from_test, same_from_test}
use Rattle.mls_geom.proofs.row_change.stretch.Goals as goal
use Rattle.mls_geom.proofs.row_change.stretch.Goals.{else-loop-end-test, then-loop-end-test+then-ne}

pub loop-end-preserved : goal.loop-end-preserved
loop-end-preserved c =
    let same : c.shown_from-next.result.kind ≡ c.shown_from-from.result.kind = same_from_test _ _ (sym c.ne.ensures ∙ c.if-ne.false) in
    record {
      wide = omega (arith, c.loop-end.invariant.wide, c.shown_from-next.ensures.wide);
      shows = λ present s whole from to. elim (cases_lt s c.loop-end.end) [
        | inl earlier ↦ c.loop-end.invariant.shows present s whole from earlier
        | inr later ↦ (let (rank, top, is) = c.shown_from-next.ensures.shows present s whole later to in (rank, top, sym same ∙ is))
      ];
    }

pub returns-clause-changes : goal.returns-clause-changes
returns-clause-changes c = λ inner present whole. elim c.loop-end-test.branch [
  | else-loop-end-test w ↦ absurd (omega (arith, c.min.ensures, w.loop-end-test.false))
  | then-loop-end-test+then-ne w ↦
      let differ : w.shown_from-next.result.kind ≢ c.shown_from-from.result.kind = differ_from_test _ _ (sym w.ne.ensures ∙ w.if-ne.true) in
      let here : c.min.result ≡ c.loop-end.end = omega (arith, c.min.ensures, w.loop-end-test.true) in
      let (rank, top, is) = w.shown_from-next.ensures.shows present c.loop-end.end whole (omega arith) w.shown_from-next.ensures.wide in
      rw here (rank, top, λ same. differ (is ∙ sym same))
]
