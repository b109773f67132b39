use Rattle.std.proofs.Common.{◌≡◌, ◌+◌, ◌<◌, ◌≤◌, length, List, max, sym, subst, ap, ◌∙◌, arith}
use Rattle.mls_edgerule.specs.Halos.{halo_of}
use Rattle.mls_edgerule.specs.RuleSets.{with_rule}
use Rattle.mls_edgerule.specs.declared.edge_rule.EdgeRule.{EdgeRule}
use Rattle.mls_checker.specs.Copies.{copied_layout}
use Rattle.mls_checker.specs.Findings.{violated_rules}
use Rattle.mls_checker.specs.Maps.{Frame, IsRound}
use Rattle.mls_checker.proofs.MapMarks.{narrower}
use Rattle.mls_checker.proofs.ReachLemmas.{halo-bounds}
use Rattle.mls_checker.proofs.RuleBits.{violated_among, violated_among-all, with_violated, without_violated}
use Rattle.mls_checker.proofs.map_marks.violated_on_maps.Goals as goal
use Rattle.mls_checker.proofs.map_marks.violated_on_maps.Goals.{then-find_any, else-find_any}

pub find_any-requires-clause-round : goal.find_any-requires-clause-round
find_any-requires-clause-round c =
    let rules = c.as_slice-rule-items.result.now in
    let rule = c.rule-item.result in
    let bound = halo-bounds rules rule (c.loop-index.index, omega arith, sym c.rule-item.is) in
    let least = 1 + max rule.distance rule.corner_distance in
    subst (λ (f : Frame). IsRound f c.args.rect least) (sym c.loop-index.invariant.frame)
    (narrower c.args.frame c.args.rect (halo_of c.args.rules.now) least c.requires (omega (arith, bound, ap halo_of c.as_slice-rule-items.ensures.value)))

pub loop-index-preserved : goal.loop-index-preserved
loop-index-preserved c =
    let rules = c.as_slice-rule-items.result.now in
    let layout = copied_layout c.args.snapshot.now in
    let index = c.loop-index.index in
    let rule = c.rule-item.result in
    let below : index < length rules = omega arith in
    let same = ap length c.as_slice-rule-items.ensures.value in
    let few : index < 128 = omega (arith, same) in
    record {
      frame = c.find_any.ensures.frame ∙ c.loop-index.invariant.frame;
      violated = elim c.if-find_any.branch [
        | then-find_any w ↦
            w.violated-is ∙ w.insert.ensures ∙ ap (λ set. with_rule set (index + 1)) c.loop-index.invariant.violated
            ∙ with_violated rules c.args.rect layout index rule below (sym c.rule-item.is) few (sym c.find_any.ensures.any ∙ w.if-find_any.true)
        | else-find_any w ↦
            w.violated-is ∙ c.loop-index.invariant.violated ∙ without_violated rules c.args.rect layout index rule below (sym c.rule-item.is) (sym c.find_any.ensures.any ∙ w.if-find_any.false)
      ];
    }

pub returns : goal.returns
returns c =
    let rules = c.as_slice-rule-items.result.now in
    let layout = copied_layout c.args.snapshot.now in
    let same = ap length c.as_slice-rule-items.ensures.value in
    let end : c.loop-index.index ≡ length rules = omega arith in
    let few : length rules ≤ 128 = omega (arith, same) in
    c.loop-index.invariant.violated ∙ ap (violated_among rules c.args.rect layout) end ∙ violated_among-all rules c.args.rect layout few
    ∙ ap (λ (all : List EdgeRule). violated_rules all c.args.rect layout) c.as_slice-rule-items.ensures.value
