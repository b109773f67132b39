-- Each run's strip is ended, which all of them reach on.
use Rattle.mls_geom.proofs.Common.{◌≡◌, ap, get_or, ◌∙◌, arith, get_or_default}
use Rattle.mls_geom.proofs.Definitions.{extended, strip_of}
use Rattle.mls_geom.proofs.KeptRuns.{bottom_below, runs_of-extended}
use Rattle.mls_geom.proofs.RowChanges.{IsChanging-ended}
use Rattle.mls_geom.proofs.row_change.end_runs.Goals as goal

pub extend_to-requires-clause-above : goal.extend_to-requires-clause-above
extend_to-requires-clause-above c =
    let (picture, top, column, next, before) = c.requires.drawn in
    let state = c.loop-index.invariant.changing picture top column next before in
    let within = state.known c.loop-index.index 0 (omega (arith, c.requires.within)) in
    let below = bottom_below c.loop-index.index (omega arith) (omega (arith, c.requires.within)) state in
    let is : c.index_mut.result.now ≡ strip_of c.loop-index.strips.items c.args.row.now c.loop-index.index = c.index_mut.ensures.value ∙ get_or_default _ _ _ _ within in
    rw is below

pub loop-index-preserved : goal.loop-index-preserved
loop-index-preserved c =
    let (picture, top, column, next, before) = c.requires.drawn in
    let state = c.loop-index.invariant.changing picture top column next before in
    let within = state.known c.loop-index.index 0 (omega (arith, c.requires.within)) in
    let k = get_or c.args.row.now c.loop-index.index 0 in
    let is : c.extend_to.new.strip ≡ extended c.args.line (strip_of c.loop-index.strips.items c.args.row.now c.loop-index.index) =
    c.extend_to.ensures ∙ ap (extended c.args.line) (c.index_mut.ensures.value ∙ get_or_default _ _ _ _ within) in
    record {
      changing = λ picture top column next before. rw is (IsChanging-ended (omega (arith, c.requires.within)) (c.loop-index.invariant.changing picture top column next before));
      same_runs = rw is (runs_of-extended c.loop-index.strips.items c.args.row.now k c.args.line within) ∙ c.loop-index.invariant.same_runs;
      len = c.loop-index.invariant.len;
    }

pub returns-clause-changing : goal.returns-clause-changing
returns-clause-changing c = λ picture top column next before.
    let all : c.loop-index.index ≡ c.args.runs.end = omega (arith, c.requires.onward) in
    rw (← all) (c.loop-index.invariant.changing picture top column next before)
