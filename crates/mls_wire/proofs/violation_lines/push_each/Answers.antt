use Rattle.mls_wire.specs.Replies.{violation_text}
use Rattle.mls_wire.proofs.PushedTexts.{stops_at_piece}
use Rattle.mls_wire.proofs.violation_lines.push_each.Goals as goal

pub returns-in_err-push_violation : goal.returns-in_err-push_violation
returns-in_err-push_violation g c =
    let text = violation_text (g.N.Names.book c.args.names.now) in
    let violation = c.violation-item.result in
    stops_at_piece c.from_residual.result c.args.out.now c.push_violation.new.out c.from_residual.ensures.0 text c.args.found.now violation c.loop-violation.out c.loop-violation.invariant.capacity
    c.in_err-push_violation.ensures.room c.in_err-push_violation.ensures.capacity c.loop-violation.violation-index violation c.loop-violation-test.true c.violation-item.is c.loop-violation.invariant.text
