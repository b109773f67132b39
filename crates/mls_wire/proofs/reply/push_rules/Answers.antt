use Rattle.mls_edgerule.specs.RuleSets.{rules_in}
use Rattle.mls_wire.specs.Replies.{rule_text}
use Rattle.mls_wire.proofs.PushedTexts.{stops_at_next_piece}
use Rattle.mls_wire.proofs.reply.push_rules.Goals as goal

pub returns-in_err-push_rule : goal.returns-in_err-push_rule
returns-in_err-push_rule g c =
    let text = rule_text (g.N.Names.book c.args.names.now) in
    stops_at_next_piece c.from_residual.result c.args.out.now c.push_rule.new.out c.from_residual.ensures.0 text (rules_in c.args.rules) c.in-Some.n c.loop-n.out c.loop-n.invariant.capacity
    c.in_err-push_rule.ensures.room c.in_err-push_rule.ensures.capacity c.loop-n.n-iterator c.next.new.self c.in-Some.ensures.steps c.loop-n.invariant.text
