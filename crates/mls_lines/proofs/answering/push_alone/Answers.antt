use Rattle.std.proofs.Common.{refl, sym, ◌∙◌}
use Rattle.mls_seat_lines.specs.mls_wire.Replies.{response_text}
use Rattle.mls_seat_lines.specs.mls_wire.declared.response.Response.TheVariants.{Fault}
use Rattle.mls_seat_lines.specs.SymbolTables.{book_in}
use Rattle.mls_lines.proofs.answering.push_alone.Goals as goal

pub returns-in-Err : goal.returns-in-Err
returns-in-Err g c =
    let text = response_text (book_in g.N.Scripted.symbols) c.args.line.now.n (Fault c.in-Err.fault) in
    rw (sym c.parsed.ensures ∙ c.in-Err.is) (text, (refl, refl), c.push_fault.ensures)

pub returns-in-Ok : goal.returns-in-Ok
returns-in-Ok g c = rw (sym c.parsed.ensures ∙ c.in-Ok.is) c.push_asked_alone.ensures
