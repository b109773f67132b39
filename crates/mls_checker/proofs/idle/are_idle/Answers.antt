use Rattle.std.proofs.Common.{◌≡◌, ◌||◌, Bool, true, get_or, sym, ap, ◌∙◌, arith}
use Rattle.std.specs.List.{list_any}
use Rattle.std.proofs.lemmas.List.{take_all}
use Rattle.std.proofs.lemmas.List.Folds.{list_any_more}
use Rattle.mls_edgerule.specs.declared.edge_rule.EdgeRule.{EdgeRule}
use Rattle.mls_geom.specs.Rects.{holds}
use Rattle.mls_geom.specs.World.{world}
use Rattle.mls_geom.proofs.ShiftedSquares.{at}
use Rattle.mls_checker.specs.Copies.{copied_layout}
use Rattle.mls_checker.specs.Forbids.{forbids}
use Rattle.std.proofs.lemmas.Bool.{and_right}
use Rattle.mls_checker.proofs.idle.are_idle.Goals as goal

pub loop-rule-preserved : goal.loop-rule-preserved
loop-rule-preserved c p =
    let rules = c.args.rules.now in
    let test : EdgeRule → Bool = λ rule. forbids rule (copied_layout c.args.snapshot.now) p in
    let place = c.loop-rule.rule-index in
    let idle : c.is_idle.result ≡ true = cc in
    list_any_more test rules place c.rule-item.result (omega arith)
    ∙ ap (λ b. b || test (get_or rules place c.rule-item.result)) (c.loop-rule.invariant p) ∙ ap test (sym c.rule-item.is) ∙ c.is_idle.ensures idle p

pub returns : goal.returns
returns c _ x y =
    let rules = c.args.rules.now in
    let test : EdgeRule → Bool = λ rule. forbids rule (copied_layout c.args.snapshot.now) (at x y) in
    and_right (holds world x y) (list_any test rules) (rw (take_all c.loop-rule.rule-index rules (omega arith)) at c.loop-rule.invariant (at x y))
