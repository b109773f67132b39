use Rattle.std.proofs.Common.{[], None, Ok, Err, true, inr, refl, subst, sym}
use Rattle.mls_seat_lines.specs.mls_server.declared.answer.Answer.TheVariants.{Opened}
use Rattle.mls_seat_lines.specs.mls_server.declared.fault.OpenFault.TheVariants.{SessionsFull}
use Rattle.mls_seat_lines.specs.mls_wire.Replies.{answer_text, response_text}
use Rattle.mls_seat_lines.specs.mls_wire.declared.line.LineFault.{LineFault}
use Rattle.mls_seat_lines.specs.mls_wire.declared.response.Response.TheVariants.{Fault}
use Rattle.mls_seat_lines.specs.SymbolTables.{book_in}
use Rattle.mls_lines.specs.Answers.{AnswersLine}
use Rattle.mls_lines.proofs.AnswerLemmas.{answers_alone, appends_none}
use Rattle.mls_lines.proofs.answering.push_asked_alone.Goals as goal

pub returns-in-Silent : goal.returns-in-Silent
returns-in-Silent g c = rw c.in-Silent.is ([], (refl, refl), appends_none c.args.out.now)

pub returns-in-Open : goal.returns-in-Open
returns-in-Open g c =
    let text = answer_text (book_in g.N.Scripted.symbols) c.in-Open.name (Opened (Err SessionsFull)) in
    rw c.in-Open.is (text, inr (SessionsFull, refl, refl), c.push_answer.ensures)

pub returns-in_default : goal.returns-in_default
returns-in_default g c =
    let book = book_in g.N.Scripted.symbols in
    let answers = λ (fault : LineFault). AnswersLine g.N.Naming.terms book c.args.n (Ok c.args.asked.now) None (response_text book c.args.n (Fault fault)) true None in
    (_, subst answers (sym c.fault_alone.ensures) (answers_alone g.N.Naming.terms book c.args.n c.args.asked.now c.in_default.not-Silent c.in_default.not-Open), c.push_fault.ensures)
