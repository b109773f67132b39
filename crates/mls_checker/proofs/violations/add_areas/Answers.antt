use Rattle.std.proofs.Common.{◌≡◌, ◌<◌, ◌+◌, ◌++◌, length, get_or, List, sym, ap, subst, ◌∙◌, arith}
use Rattle.mls_edgerule.specs.declared.edge_rule.EdgeRule.{EdgeRule}
use Rattle.mls_geom.specs.Rects.{Rect}
use Rattle.mls_checker.specs.Copies.{copied_layout}
use Rattle.mls_checker.specs.Violations.{GainSomeViolations, GainViolations}
use Rattle.mls_checker.proofs.GainedAreas.{GainSoFar, gain-all, gain-item, gain-none, gain-skip, gain-some}
use Rattle.mls_checker.proofs.ReachLemmas.{halo-bounds}
use Rattle.mls_checker.proofs.violations.add_areas.Goals as goal
use Rattle.mls_checker.proofs.violations.add_areas.Goals.{then-is_in+in_ok-add_lists+in_ok-found+in-Some+in_ok-extend, else-is_in}

pub forbidden_areas-requires-clause-reach : goal.forbidden_areas-requires-clause-reach
forbidden_areas-requires-clause-reach c =
    let rules = c.as_slice-rule-items.result.now in
    let rule = c.rule-item.result in
    let bound = halo-bounds rules rule (c.loop-index.index, omega arith, sym c.rule-item.is) in
    rw (c.halo-halo.ensures.value, ← c.as_slice-rule-items.ensures.value) bound

pub forbidden_areas-requires-clause-sides : goal.forbidden_areas-requires-clause-sides
forbidden_areas-requires-clause-sides c = rw c.deref.ensures.value c.in_ok-add_lists.ensures

pub loop-index-init : goal.loop-index-init
loop-index-init c = record {
  sides = λ k d within. absurd (omega (arith, within, ap length c.new-sides.ensures.items));
  gained = gain-none c.as_slice-rule-items.result.now c.args.of c.args.rect (copied_layout c.args.snapshot.now) c.args.lists.now;
}

pub returns-in_default-clause-some : goal.returns-in_default-clause-some
returns-in_default-clause-some c left =
    let rules = c.as_slice-rule-items.result.now in
    let layout = copied_layout c.args.snapshot.now in
    subst (λ (rs : List EdgeRule). GainSomeViolations rs c.args.of c.args.rect layout c.args.lists.now c.loop-index.lists) c.as_slice-rule-items.ensures.value
    (gain-some rules c.args.of c.args.rect layout c.args.lists.now c.loop-index.lists c.loop-index.index c.loop-index.invariant.gained)

pub loop-index-preserved : goal.loop-index-preserved
loop-index-preserved c =
    let rules = c.as_slice-rule-items.result.now in
    let layout = copied_layout c.args.snapshot.now in
    let index = c.loop-index.index in
    let old = c.args.lists.now in
    let mid = c.loop-index.lists in
    let below : index < length rules = omega arith in
    let many : length mid ≡ length rules = c.loop-index.invariant.gained.as_many ∙ c.requires.as_many ∙ ap length (sym c.as_slice-rule-items.ensures.value) in
    elim c.if-is_in.branch [
      | then-is_in+in_ok-add_lists+in_ok-found+in-Some+in_ok-extend w ↦
          let squares = rw w.in-Some.is at w.in_ok-found.ensures.found in
          let within : index < length mid = omega (arith, below, many) in
          record {
            sides = rw w.sides-is w.in_ok-add_lists.ensures;
            gained = gain-item rules c.args.of c.args.rect layout old mid c.if-is_in.lists index c.rule-item.result w.index-lists-index.result w.extend.new.self _
                below c.rule-item.is within w.index-lists-index.is (w.in_ok-extend.ensures ∙ ap (λ (list : List Rect). get_or mid index w.index-lists-index.result ++ list) w.deref-then-is_in.ensures.value
                ∙ ap (λ (list : List Rect). list ++ w.in-Some.areas.items) (sym w.index-lists-index.is)) w.lists-is
                squares c.loop-index.invariant.gained;
          }
      | else-is_in w ↦
          record {
            sides = rw w.sides-is c.loop-index.invariant.sides;
            gained = subst (λ (lists : List (List Rect)). GainSoFar rules c.args.of c.args.rect layout old lists (index + 1)) (sym w.lists-is)
                (gain-skip rules c.args.of c.args.rect layout old mid index (sym c.is_in.ensures ∙ w.if-is_in.false) c.loop-index.invariant.gained);
          }
    ]

pub returns-clause-found : goal.returns-clause-found
returns-clause-found c done =
    let rules = c.as_slice-rule-items.result.now in
    let layout = copied_layout c.args.snapshot.now in
    let end : length rules ≡ c.loop-index.index = omega arith in
    subst (λ (rs : List EdgeRule). GainViolations rs c.args.of c.args.rect layout c.args.lists.now c.loop-index.lists) c.as_slice-rule-items.ensures.value
    (gain-all rules c.args.of c.args.rect layout c.args.lists.now c.loop-index.lists c.loop-index.index end c.loop-index.invariant.gained)
