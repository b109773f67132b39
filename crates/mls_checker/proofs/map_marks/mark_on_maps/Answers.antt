use Rattle.std.proofs.Common.{◌≡◌, ◌-◌, ◌*◌, ◌&&◌, ◌∙◌, ap, sym, subst, ℕ, length, length-drop, drop, take, List, arith}
use Rattle.std.proofs.lemmas.List.{take_all}
use Rattle.std.proofs.lemmas.Result.{IfOk-weaker}
use Rattle.mls_edgerule.specs.Halos.{halo_of}
use Rattle.mls_edgerule.specs.declared.edge_rule.EdgeRule.{EdgeRule}
use Rattle.mls_geom.specs.Rects.{holds}
use Rattle.mls_checker.specs.Copies.{copied_layout}
use Rattle.mls_checker.specs.MarkMaps.{MarkMap, mapped}
use Rattle.mls_checker.specs.Maps.{Frame, HasDeep, forbidden_by_any}
use Rattle.mls_checker.specs.Marking.{marks}
use Rattle.mls_checker.proofs.MapMarks.{marks-found, narrower, rule-added, rule-skipped}
use Rattle.mls_checker.proofs.map_marks.mark_on_maps.Goals as goal

pub new-requires-2-clause-round : goal.new-requires-2-clause-round
new-requires-2-clause-round c = narrower c.args.frame c.args.piece (halo_of c.args.rules.now) 0 c.requires (omega arith)

pub new-requires-2-clause-size : goal.new-requires-2-clause-size
new-requires-2-clause-size c some = c.rules.marks.marked_sized ∙ ap (λ (f : Frame). f.words * f.rows) c.rules.invariant.frame

pub returns-clause-marks : goal.returns-clause-marks
returns-clause-marks c =
    let rules = c.args.rules.now in
    let layout = copied_layout c.args.snapshot.now in
    let frame = c.args.frame in
    let piece = c.args.piece in
    let end : c.rules.index ≡ 0 = omega (arith, c.rules-test.false) in
    let has : HasDeep frame (halo_of rules) (forbidden_by_any rules layout) c.rules.marks.marked.items =
    subst (λ (n : ℕ). HasDeep frame (halo_of rules) (forbidden_by_any (drop n rules) layout) c.rules.marks.marked.items) end (c.rules.invariant.marked (halo_of rules) (omega arith)) in
    IfOk-weaker c.of.result (λ marked. (x y : ℕ) → marks marked x y ≡ mapped c.new-2.result x y)
    (λ marked. (x y : ℕ) → marks marked x y ≡ (holds piece x y && forbidden_by_any rules layout x y))
    (λ marked are x y. are x y ∙ ap (λ (m : MarkMap). mapped m x y) c.new-2.ensures
    ∙ marks-found rules layout frame piece c.rules.marks.marked.items x y c.requires has)
    c.of.ensures.squares

pub rules-preserved : goal.rules-preserved
rules-preserved c =
    let rules = c.args.rules.now in
    let layout = copied_layout c.args.snapshot.now in
    let n = c.rules.index in
    let later : take (length rules - n) (drop n rules) ≡ drop n rules = take_all (length rules - n) (drop n rules) (omega (arith, length-drop n rules)) in
    record {
      within = omega arith;
      frame = c.rules.invariant.frame;
      marked = λ depth far. rule-skipped rules layout c.args.frame (n - 1) n c.index-rules-index.result depth c.rules.marks.marked.items (omega arith) (omega arith) (sym c.index-rules-index.is)
          (λ x y here. sym (ap (λ (rs : List EdgeRule). forbidden_by_any rs layout x y) later) ∙ c.is_needed.ensures c.if-is_needed.false x y here) (c.rules.invariant.marked depth far);
    }

pub rules-preserved-then-is_needed : goal.rules-preserved-then-is_needed
rules-preserved-then-is_needed c =
    let rules = c.args.rules.now in
    let layout = copied_layout c.args.snapshot.now in
    let n = c.rules.index in
    record {
      within = omega arith;
      frame = c.add.ensures.frame ∙ c.rules.invariant.frame;
      marked = λ depth far. rule-added rules layout c.args.frame (n - 1) n c.index-rules-index.result depth c.rules.marks.marked.items c.add.new.self.marked.items (omega arith) (omega arith) (sym c.index-rules-index.is) far
          (c.rules.invariant.marked depth far) (rw c.rules.invariant.frame at c.add.ensures.marked);
    }
