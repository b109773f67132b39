use Rattle.std.proofs.Common.{◌≡◌, ◌<◌, ℕ, ◌-◌, List, ◌∷◌, ◌++◌, length, map, sym, ap, ◌∙◌, arith}
use Rattle.mls_errorplane.proofs.Common.{Rect, Violation, areas_at, listed_violation, rules_in, set_strips, squares_within, strip_count}
use Rattle.mls_errorplane.proofs.CountedStrips.{count-push, listed-next, over-limit}
use Rattle.mls_errorplane.proofs.Refusals.{IfErr-weaker}
use Rattle.mls_errorplane.proofs.gathering.list_violations.Goals as goal

pub loop-rule-preserved : goal.loop-rule-preserved
loop-rule-preserved c =
    let rect = c.args.rect in
    let n = c.in-Some.rule in
    let violation : Violation = record { rule = n; strips = c.in_ok-strips.strips.items } in
    let areas = c.areas.ensures ∙ ap (areas_at c.args.found.now) c.saturating_sub.ensures in
    let strips : c.in_ok-strips.strips.items ≡ set_strips (squares_within rect (areas_at c.args.found.now (n - 1))) =
    c.in_ok-strips.ensures.strips ∙ ap (λ (list : List Rect). set_strips (squares_within rect list)) areas in
    record {
      listed = listed-next (listed_violation rect c.args.found.now) c.loop-rule.list.items c.push_violation.new.list.items _ violation n c.loop-rule.rule-iterator c.next.new.self
          c.in-Some.ensures.steps c.in_ok-push_violation.ensures (ap (λ (list : List Rect). record violation { strips = list }) strips) c.loop-rule.invariant.listed;
      left = count-push c.loop-rule.list.items c.push_violation.new.list.items violation c.loop-rule.left (c.loop-rule.left - c.len-left.result) c.args.limit
          c.in_ok-push_violation.ensures c.loop-rule.invariant.left (omega (arith, c.in_ok-strips.ensures.within, c.len-left.ensures));
    }

pub returns-in_err-strips-clause-too_many : goal.returns-in_err-strips-clause-too_many
returns-in_err-strips-clause-too_many c =
    let rect = c.args.rect in
    let n = c.in-Some.rule in
    let made = listed_violation rect c.args.found.now in
    let list = c.loop-rule.list.items in
    let rest = map made c.next.new.self in
    let all = map made (rules_in c.args.of) in
    let areas = c.areas.ensures ∙ ap (areas_at c.args.found.now) c.saturating_sub.ensures in
    let same = ap (λ (xs : List Rect). length (set_strips (squares_within rect xs))) areas in
    let listed : list ++ made n ∷ rest ≡ all = ap (λ (ns : List ℕ). list ++ map made ns) (sym c.in-Some.ensures.steps) ∙ c.loop-rule.invariant.listed in
    IfErr-weaker c.from_residual.result c.in_err-strips.field-0.0 (c.loop-rule.left < length (set_strips (squares_within rect c.areas.result.now))) (c.args.limit < strip_count all)
    c.from_residual.ensures (λ more. over-limit list rest all (made n) c.loop-rule.left c.args.limit listed c.loop-rule.invariant.left (omega (arith, more, same)))
    c.in_err-strips.ensures.too_many
