use Rattle.std.proofs.Common.{◌≡◌, ℕ, true, Option, List, Result, Ok, Err, refl, sym, ap, ◌∙◌}
use Rattle.mls_seat_lines.specs.mls_wire.NameBooks.{Names}
use Rattle.mls_seat_lines.specs.mls_wire.Replies.{response_text}
use Rattle.mls_seat_lines.specs.mls_wire.ScriptLines.{bytes_of_line}
use Rattle.mls_seat_lines.specs.mls_wire.declared.line.Line.{Line}
use Rattle.mls_seat_lines.specs.mls_wire.declared.line.LineFault.{LineFault}
use Rattle.mls_seat_lines.specs.mls_wire.declared.response.Response.TheVariants.{Fault}
use Rattle.mls_lines.specs.Answers.{held_by, name_held}
use Rattle.mls_seat_lines.specs.SymbolTables.{book_in}
use Rattle.mls_lines.specs.Beside.{says_beside}
use Rattle.mls_lines.proofs.AnswerLemmas.{appends_as}
use Rattle.mls_lines.proofs.answering.Clerk.answer.Goals as goal

-- the name was read, and then what the line says where a session of that name is open
says_held : (book : Names) (held name : Option (List ℕ)) (line : Option (List ℕ)) (result said : Result Line LineFault)
    → name ≡ held → result ≡ says_beside book name line → result ≡ said → says_beside book held line ≡ said
says_held book held name line result said same says is = ap (λ (n : Option (List ℕ)). says_beside book n line) (sym same) ∙ sym says ∙ is

pub returns-in-Err : goal.returns-in-Err
returns-in-Err g c =
    let book = book_in g.N.Scripted.symbols in
    let says = says_held book (name_held (held_by c.args.sitting.now)) c.name_of.result (bytes_of_line c.args.line.now.line) c.parsed.result (Err c.in-Err.fault) c.name_of.ensures c.parsed.ensures c.in-Err.is in
    let text = response_text book c.args.line.now.n (Fault c.in-Err.fault) in
    rw says (text, true, (refl, refl), c.done.ensures.known, appends_as c.push_fault.result c.done.result _ _ _ c.done.ensures.same c.push_fault.ensures)

pub returns-in-Ok : goal.returns-in-Ok
returns-in-Ok g c =
    let says = says_held (book_in g.N.Scripted.symbols) (name_held (held_by c.args.sitting.now)) c.name_of.result (bytes_of_line c.args.line.now.line) c.parsed.result (Ok c.in-Ok.asked) c.name_of.ensures c.parsed.ensures c.in-Ok.is in
    rw says c.carry_out.ensures
