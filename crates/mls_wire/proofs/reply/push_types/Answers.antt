use Rattle.mls_kinds.specs.KindSets.{members}
use Rattle.mls_wire.specs.Replies.{type_text}
use Rattle.mls_wire.proofs.PushedTexts.{stops_at_next_piece}
use Rattle.mls_wire.proofs.reply.push_types.Goals as goal

pub returns-in_err-push_after_space : goal.returns-in_err-push_after_space
returns-in_err-push_after_space g c =
    let text = type_text (g.N.Names.book c.args.names.now) in
    stops_at_next_piece c.from_residual.result c.args.out.now c.push_after_space.new.out c.from_residual.ensures.0 text (members c.args.types) c.in-Some.kind c.loop-kind.out c.loop-kind.invariant.capacity
    (rw c.type_name.ensures at c.in_err-push_after_space.ensures.room) c.in_err-push_after_space.ensures.capacity c.loop-kind.kind-iterator c.next.new.self c.in-Some.ensures.steps c.loop-kind.invariant.text
