-- Slots that show alike are a run of the row, which comes right after those before it, or are uncovered.
use Rattle.std.proofs.Common.{◌≡◌, ◌<◌, ◌≤◌, Err, ap, slice_index, length, sym, ◌∙◌, le_refl, arith}
use Rattle.mls_geom.proofs.CutLines.{rises}
use Rattle.mls_geom.proofs.KeptRuns.{AllWithin-kept}
use Rattle.mls_geom.proofs.RowChanges.{IsChanging-passed, IsChanging-uncovered}
use Rattle.mls_geom.proofs.ShownRuns.{IsEnd-changes, run_shown, uncovered-shown}
use Rattle.mls_geom.proofs.row_change.change_slots.Goals as goal

pub loop-first-init : goal.loop-first-init
loop-first-init c = record {
  from = le_refl c.args.change.slots.first;
  to = omega (arith, c.requires.wide);
  under_from = le_refl c.args.change.runs.first;
  under_to = c.requires.onward;
  changing = λ picture present top shown state. (c.end_runs.ensures.changing picture top _ _ state, shown.left);
  same_runs = c.end_runs.ensures.same_runs;
  within = omega (arith, c.end_runs.ensures.len, c.requires.within);
}

pub add_run-requires-clause-drawn : goal.add_run-requires-clause-drawn
add_run-requires-clause-drawn c =
    let (picture, present, top, shown, before) = c.requires.drawn in
    let (state, left) = c.loop-first.invariant.changing picture present top shown before in
    let slots = c.stretch-shown.ensures in
    let (run, right) = run_shown c.args.slots.now.tree.now c.args.slots.now.lines.now picture present c.args.band.bottom c.args.change.slots c.requires.cuts shown c.requires.in_row c.stretch-shown.result.kind c.loop-first.first c.stretch-shown.result.end
    slots.wide slots.within (λ s from to. slots.shows present s shown.is from to) c.in-Some.kind c.in-Some.is (rw c.in-Some.is at slots.kind) left (λ inner. slots.changes inner present shown.is) in
    (picture, top, state, run)

pub add_run-requires-clause-right_out : goal.add_run-requires-clause-right_out
add_run-requires-clause-right_out c =
    let far = rises c.args.slots.now.lines.now c.requires.cuts.ascending c.stretch-shown.result.end c.args.change.slots.end c.stretch-shown.ensures.within c.requires.in_row in
    let right = AllWithin-kept (λ run. slice_index c.args.slots.now.lines.now c.args.change.slots.end ≤ run.left) c.args.strips.now.items c.loop-first.strips.items c.args.row.now c.args.change.runs.end (length c.args.row.now)
    (le_refl (length c.args.row.now)) c.loop-first.invariant.same_runs c.requires.right in
    λ k d low high. omega (arith, far, right k d low high)

pub returns-in_err-under-clause-too_many : goal.returns-in_err-under-clause-too_many
returns-in_err-under-clause-too_many c = λ stopped picture present top shown before.
    let (state, left) = c.loop-first.invariant.changing picture present top shown before in
    let slots = c.stretch-shown.ensures in
    let (run, right) = run_shown c.args.slots.now.tree.now c.args.slots.now.lines.now picture present c.args.band.bottom c.args.change.slots c.requires.cuts shown c.requires.in_row c.stretch-shown.result.kind c.loop-first.first c.stretch-shown.result.end
    slots.wide slots.within (λ s from to. slots.shows present s shown.is from to) c.in-Some.kind c.in-Some.is (rw c.in-Some.is at slots.kind) left (λ inner. slots.changes inner present shown.is) in
    c.in_err-under.ensures.too_many (ap Err (sym (rw stopped at c.from_residual.ensures.1))) picture top state run

pub loop-first-preserved-in_ok-under : goal.loop-first-preserved-in_ok-under
loop-first-preserved-in_ok-under c =
    let slots = c.stretch-shown.ensures in
    let so_far = c.loop-first.invariant in
    record {
      from = omega (arith, so_far.from, slots.wide);
      to = slots.within;
      under_from = omega (arith, so_far.under_from, c.in_ok-under.ensures.under.0);
      under_to = c.in_ok-under.ensures.under.1;
      changing = λ picture present top shown before.
          (let (state, left) = so_far.changing picture present top shown before in
          let (run, right) = run_shown c.args.slots.now.tree.now c.args.slots.now.lines.now picture present c.args.band.bottom c.args.change.slots c.requires.cuts shown c.requires.in_row c.stretch-shown.result.kind c.loop-first.first c.stretch-shown.result.end
          slots.wide slots.within (λ s from to. slots.shows present s shown.is from to) c.in-Some.kind c.in-Some.is (rw c.in-Some.is at slots.kind) left (λ inner. slots.changes inner present shown.is) in
          (c.in_ok-under.ensures.changing picture top state run, right));
      same_runs = c.in_ok-under.ensures.same_runs ∙ so_far.same_runs;
      within = c.in_ok-under.ensures.within;
    }

pub loop-first-preserved : goal.loop-first-preserved
loop-first-preserved c =
    let slots = c.stretch-shown.ensures in
    let so_far = c.loop-first.invariant in
    let far = rises c.args.slots.now.lines.now c.requires.cuts.ascending c.stretch-shown.result.end c.args.change.slots.end slots.within c.requires.in_row in
    let right_out = AllWithin-kept (λ run. slice_index c.args.slots.now.lines.now c.args.change.slots.end ≤ run.left) c.args.strips.now.items c.loop-first.strips.items c.args.row.now c.args.change.runs.end (length c.args.row.now)
    (le_refl (length c.args.row.now)) so_far.same_runs c.requires.right in
    record {
      from = omega (arith, so_far.from, slots.wide);
      to = slots.within;
      under_from = so_far.under_from;
      under_to = so_far.under_to;
      changing = λ picture present top shown before.
          (let (state, left) = so_far.changing picture present top shown before in
          let right = IsEnd-changes c.args.slots.now.tree.now c.args.slots.now.lines.now picture present c.args.band.bottom c.args.change.slots c.requires.cuts shown c.requires.in_row c.stretch-shown.result.kind c.loop-first.first c.stretch-shown.result.end
          slots.wide slots.within (λ s from to. slots.shows present s shown.is from to) (λ inner. slots.changes inner present shown.is) in
          let none = uncovered-shown c.args.slots.now.tree.now c.args.slots.now.lines.now picture present c.args.band.bottom c.args.change.slots c.requires.cuts shown c.requires.in_row c.stretch-shown.result.kind c.loop-first.first c.stretch-shown.result.end
          slots.wide slots.within (λ s from to. slots.shows present s shown.is from to) c.in_default.is in
          let up = rises c.args.slots.now.lines.now c.requires.cuts.ascending c.loop-first.first c.stretch-shown.result.end (omega (arith, slots.wide)) (omega (arith, slots.within, c.requires.in_row)) in
          (IsChanging-uncovered (slice_index c.args.slots.now.lines.now c.stretch-shown.result.end) up none (λ k d low high. omega (arith, far, right_out k d low high)) state, right));
      same_runs = so_far.same_runs;
      within = so_far.within;
    }

pub returns-clause-changing : goal.returns-clause-changing
returns-clause-changing c = λ picture present top shown before.
    let so_far = c.loop-first.invariant in
    let (state, left) = so_far.changing picture present top shown before in
    let all : c.loop-first.first ≡ c.args.change.slots.end = omega (arith, so_far.to) in
    let passed = AllWithin-kept (λ run. run.left < slice_index c.args.slots.now.lines.now c.args.change.slots.end) c.args.strips.now.items c.loop-first.strips.items c.args.row.now c.args.change.runs.first c.args.change.runs.end
    c.requires.runs_within so_far.same_runs c.requires.left in
    IsChanging-passed c.args.change.runs.end so_far.under_to (le_refl c.args.change.runs.end) (λ k d low high. passed k d (omega (arith, low, so_far.under_from)) high) (rw all at state)
