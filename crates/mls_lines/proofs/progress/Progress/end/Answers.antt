use Rattle.std.proofs.Common.{◌∙◌, List, ℕ, subst, sym}
use Rattle.mls_seat_lines.specs.mls_live.Lists.{list_of}
use Rattle.mls_seat_lines.specs.mls_server.LegalLists.{IsLegalList}
use Rattle.mls_seat_lines.specs.SymbolTables.{book_in}
use Rattle.mls_seat_lines.proofs.Results.{ok_holds}
use Rattle.mls_lines.specs.Answers.{OpenSeat}
use Rattle.mls_lines.specs.Scripts.{IsReply, ReplyText}
use Rattle.mls_lines.proofs.RunLemmas.{answered_end}
use Rattle.mls_lines.proofs.progress.Progress.end.Goals as goal

pub new-requires-2 : goal.new-requires-2
new-requires-2 g c =
    let sitting = c.in_ok-seat.field-0 in
    let held : OpenSeat = record { name = sitting.name; said = list_of sitting.seat } in
    let reply = λ (t : List ℕ). let one : ReplyText = record { text = t; audited = c.is_ok-audited.result } in IsReply g.N.Naming.terms (book_in g.N.Scripted.symbols) g.N.Scripted.script one in
    subst reply (sym c.new.ensures.items)
    (answered_end g.N.Naming.terms (book_in g.N.Scripted.symbols) g.N.Scripted.script c.args.self.last held c.is_ok-audited.result (rw c.in_ok-seat.was at c.args.self.answered)
    (λ yes. ok_holds c.audit.result (IsLegalList g.N.Naming.terms (list_of sitting.seat)) (sym c.is_ok-audited.ensures.value ∙ yes) c.audit.ensures.legal))
