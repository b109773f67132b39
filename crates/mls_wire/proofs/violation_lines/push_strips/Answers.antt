use Rattle.mls_wire.specs.Replies.{strip_text}
use Rattle.mls_wire.proofs.PushedTexts.{stops_at_piece}
use Rattle.mls_wire.proofs.violation_lines.push_strips.Goals as goal

pub returns-in_err-push_strip : goal.returns-in_err-push_strip
returns-in_err-push_strip c =
    let strip = c.strip-item.result in
    stops_at_piece c.from_residual.result c.args.out.now c.push_strip.new.out c.from_residual.ensures.0 strip_text c.args.strips.now strip c.loop-strip.out c.loop-strip.invariant.capacity
    c.in_err-push_strip.ensures.room c.in_err-push_strip.ensures.capacity c.loop-strip.strip-index strip c.loop-strip-test.true c.strip-item.is c.loop-strip.invariant.text
