use Rattle.std.proofs.Common.{Err, sym, ap, ◌∙◌}
use Rattle.std.proofs.lemmas.List.{drop_all}
use Rattle.mls_edgerule.proofs.CompiledLines.{continued, continued-start, continued-end, continued-full, continued-planes, continued-rule}
use Rattle.mls_edgerule.proofs.compiling.compile.Goals as goal

pub loop-line-init : goal.loop-line-init
loop-line-init c = rw (c.new-rules.ensures, c.lines-lines.ensures) (continued-start c.args.tech.now)

pub returns-then-is_full : goal.returns-then-is_full
returns-then-is_full c =
    ap Err c.rule_fault.ensures
    ∙ sym (continued-full _ _ _ _ _ c.loop-line-test.true c.line-item.is (sym c.is_full.ensures ∙ c.if-is_full.true)) ∙ c.loop-line.invariant

pub returns-in_default : goal.returns-in_default
returns-in_default c =
    ap Err c.rule_fault-in_default.ensures
    ∙ sym (continued-planes _ _ _ _ _ c.loop-line-test.true c.line-item.is (sym c.is_full.ensures ∙ c.if-is_full.false) (sym c.rule_of.ensures ∙ c.in_default.is))
    ∙ c.loop-line.invariant

pub loop-line-preserved : goal.loop-line-preserved
loop-line-preserved c =
    rw c.push.ensures
    (sym (continued-rule _ _ _ _ _ c.loop-line-test.true c.line-item.is _ (sym c.is_full.ensures ∙ c.if-is_full.false) (sym c.rule_of.ensures ∙ c.in-Some.is))
    ∙ c.loop-line.invariant)

pub returns : goal.returns
returns c =
    let none = drop_all c.loop-line.line-index c.lines-lines.result.now c.loop-line-test.false in
    sym (continued-end c.args.tech.now c.loop-line.rules) ∙ ap (continued c.args.tech.now c.loop-line.rules) (sym none) ∙ c.loop-line.invariant
