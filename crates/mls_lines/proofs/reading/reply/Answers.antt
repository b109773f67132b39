use Rattle.std.proofs.Common.{◌≡◌, ◌++◌, ℕ, List, None, true, subst, sym}
use Rattle.mls_seat_lines.specs.mls_wire.ScriptLines.{bytes_of_line}
use Rattle.mls_seat_lines.specs.SymbolTables.{book_in}
use Rattle.mls_lines.specs.Scripts.{Answered, IsReply}
use Rattle.mls_lines.proofs.RunLemmas.{answered_first}
use Rattle.mls_lines.proofs.reading.reply.Goals as goal

pub new-reply-requires : goal.new-reply-requires
new-reply-requires g c =
    let line = c.args.line.now in
    let (text, answers, appended) = c.in_ok-push_alone.ensures in
    let last : Answered = record { n = line.n; line = bytes_of_line line.line; text = text; audited = true; after = None } in
    let replied = answered_first g.N.Naming.terms (book_in g.N.Scripted.symbols) g.N.Scripted.script last c.requires.numbered c.requires.line answers in
    subst (λ (t : List ℕ). IsReply g.N.Naming.terms (book_in g.N.Scripted.symbols) g.N.Scripted.script (record { text = t; audited = true })) (sym (subst (λ (l : List ℕ). c.push_alone.new.out.items ≡ l ++ text) c.new-text.ensures.items appended.text)) replied
