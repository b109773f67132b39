use Rattle.std.proofs.Common.{refl, sym, ◌∙◌}
use Rattle.mls_live.specs.Lists.{list_of}
use Rattle.mls_wire.specs.mls_server.declared.answer.Answer.TheVariants.{Commanded}
use Rattle.mls_wire.specs.Replies.{answer_text, response_text}
use Rattle.mls_seat_lines.proofs.Commands.{serves_command}
use Rattle.mls_seat_lines.proofs.serving.run.Goals as goal

pub returns : goal.returns
unfolding response_text
returns g c =
    let book = g.B.Names.book c.args.wording.now.names.now in
    let text = answer_text book c.args.name.now (Commanded c.command-result.result) in
    let serves = serves_command g.N.Naming.terms book c.args.name.now (list_of c.args.seat.now) (list_of c.command-result.new.self) c.args.command c.command-result.result text
    (sym c.is_save.ensures ∙ c.if-is_save.false) c.command-result.ensures.list refl c.command-result.ensures.replied in
    (text, serves, c.push_response.ensures)
