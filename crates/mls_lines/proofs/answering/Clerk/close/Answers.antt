use Rattle.std.proofs.Common.{◌≡◌, true, Some, None, Ok, refl, sym, ◌∙◌}
use Rattle.mls_seat_lines.specs.mls_server.declared.answer.Answer.TheVariants.{Closed}
use Rattle.mls_seat_lines.specs.mls_wire.Replies.{answer_text, response_text}
use Rattle.mls_seat_lines.specs.mls_wire.declared.line.LineFault.TheVariants.{NotOpen}
use Rattle.mls_seat_lines.specs.mls_wire.declared.response.Response.TheVariants.{Fault}
use Rattle.mls_seat_lines.specs.SymbolTables.{book_in}
use Rattle.mls_lines.proofs.AnswerLemmas.{appends_as}
use Rattle.mls_lines.proofs.answering.Clerk.close.Goals as goal

pub returns-in-None : goal.returns-in-None
returns-in-None g c =
    let text = response_text (book_in g.N.Scripted.symbols) c.args.n (Fault NotOpen) in
    let was : c.args.sitting.now ≡ None = sym c.take.ensures.value ∙ c.in-None.is in
    rw (was, c.take.ensures.after) (text, true, (refl, refl), c.done.ensures.known, appends_as c.push_fault.result c.done.result _ _ _ c.done.ensures.same c.push_fault.ensures)

pub returns-in-Some : goal.returns-in-Some
returns-in-Some g c =
    let text = answer_text (book_in g.N.Scripted.symbols) c.args.name (Closed (Ok tt)) in
    let was : c.args.sitting.now ≡ Some c.in-Some.sitting = sym c.take.ensures.value ∙ c.in-Some.is in
    let (audited, legal, known, appended) = c.leave.ensures in
    rw (was, c.take.ensures.after) (text, audited, (refl, refl, legal), known, appended)
