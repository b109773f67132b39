use Rattle.mls_wire.specs.JournalLines.{next_type}
use Rattle.mls_wire.proofs.PushedTexts.{stops_at_next_piece}
use Rattle.mls_wire.proofs.journal_lines.push_more_types.Goals as goal

pub returns-in_err-push_next_type : goal.returns-in_err-push_next_type
returns-in_err-push_next_type g c =
    let text = next_type (g.N.Names.book c.args.names.now) in
    stops_at_next_piece c.from_residual.result c.args.out.now c.push_next_type.new.out c.from_residual.ensures.0 text c.args.kinds c.in-Some.kind c.loop-kind.out c.loop-kind.invariant.capacity
    c.in_err-push_next_type.ensures.room c.in_err-push_next_type.ensures.capacity c.loop-kind.kind-iterator c.next.new.self c.in-Some.ensures.steps c.loop-kind.invariant.text
