-- Slots that are alike, up to where that ends, are a run of the row and come right after those before it, or of no piece and in no run.
use Rattle.mls_geom.proofs.Common.{◌≡◌, ◌-◌, ◌<◌, length, ap, ◌∙◌, arith, unwrap_or, get_or_default}
use Rattle.mls_geom.specs.Locality.{uncovered}
use Rattle.mls_geom.specs.Sweep.Slots.{shown}
use Rattle.mls_geom.proofs.Joining.{AreRunsBefore-push, AreRunsBefore-uncovered}
use Rattle.mls_geom.proofs.SlotRuns.{IsRun-from_slots}
use Rattle.mls_geom.proofs.run.join_slots.Goals as goal

pub loop-first-preserved-in-Some : goal.loop-first-preserved-in-Some
loop-first-preserved-in-Some c =
    let kinds = c.args.kinds.now in
    let slots = c.end_of_kind-end.ensures in
    let so_far = c.loop-first.invariant in
    let is = get_or_default kinds c.loop-first.first _ _ (omega arith) ∙ c.in-Some.is in
    let shows : shown kinds c.loop-first.first ≡ c.in-Some.kind = ap (λ kind. unwrap_or kind uncovered) is in
    let byte : c.in-Some.kind < uncovered = rw is at (c.requires.bytes c.loop-first.first) in
    record {
      within = slots.within;
      starts = λ _. slots.changes;
      runs = λ extent picture y cuts slot_kinds.
          (let starts = λ (some : 0 < c.loop-first.first). so_far.starts some c.loop-first-test.true in
          let next = IsRun-from_slots extent picture y c.args.lines.now kinds cuts slot_kinds c.loop-first.first _ slots.wide slots.within slots.alike starts slots.changes in
          rw c.push_reserved.ensures.items (AreRunsBefore-push extent picture y _ _ (so_far.runs extent picture y cuts slot_kinds) (rw shows at next) (λ none. omega (arith, byte))));
      fits = omega arith;
      room = cc;
    }

pub loop-first-preserved : goal.loop-first-preserved
loop-first-preserved c =
    let kinds = c.args.kinds.now in
    let slots = c.end_of_kind-end.ensures in
    let so_far = c.loop-first.invariant in
    let shows : shown kinds c.loop-first.first ≡ uncovered = ap (λ kind. unwrap_or kind uncovered) (get_or_default kinds c.loop-first.first _ _ (omega arith) ∙ c.in_default.is) in
    record {
      within = slots.within;
      starts = λ _. slots.changes;
      runs = λ extent picture y cuts slot_kinds.
          (let starts = λ (some : 0 < c.loop-first.first). so_far.starts some c.loop-first-test.true in
          let next = IsRun-from_slots extent picture y c.args.lines.now kinds cuts slot_kinds c.loop-first.first _ slots.wide slots.within slots.alike starts slots.changes in
          AreRunsBefore-uncovered extent picture y _ _ _ (so_far.runs extent picture y cuts slot_kinds) (omega (arith, next.wide)) (λ x from before. next.one_kind x from before ∙ shows));
      fits = omega arith;
      room = cc;
    }

pub returns-clause-runs : goal.returns-clause-runs
returns-clause-runs c = λ extent picture y cuts slot_kinds.
    let runs = c.loop-first.invariant.runs extent picture y cuts slot_kinds in
    record {
      each = runs.each;
      covered = runs.covered;
      whole = λ x from before shown.
          (let all : c.loop-first.first ≡ length c.args.lines.now - 1 = omega (arith, slot_kinds.count) in
          runs.whole x from (rw all (omega (arith, cuts.last))) shown);
      ordered = runs.ordered;
    }
