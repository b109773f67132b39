use Rattle.std.proofs.Common.{◌≡◌, ◌<◌, ◌∙◌, ◌++◌, ℕ, Bool, List, Some, ap, arith, subst, sym}
use Rattle.mls_lines.specs.Answers.{held_by}
use Rattle.mls_seat_lines.specs.SymbolTables.{book_in}
use Rattle.mls_lines.specs.Scripts.{IsReply, ReplyText}
use Rattle.mls_lines.proofs.RunLemmas.{answered_line}
use Rattle.mls_lines.proofs.progress.Progress.answer.Goals as goal

pub invariant_of-self : goal.invariant_of-self
invariant_of-self g c =
    let was = c.args.self.now in
    let line = c.args.line.now in
    let (text, audited, answers, known, appended) = c.answer-replied.ensures in
    let later : was.last < line.n = omega arith in
    record {
      answered = (answered_line g.N.Naming.terms (book_in g.N.Scripted.symbols) g.N.Scripted.script was.last (held_by was.sitting) line.n (Some line.bytes.items) text audited
          (held_by c.answer-replied.new.sitting) was.answered later line.line (rw (c.new-numbered.ensures.0, c.new-numbered.ensures.1 ∙ ap Some c.deref.ensures.value) at answers)).0;
    }

pub new-requires : goal.new-requires
new-requires g c =
    let was = c.args.self.now in
    let line = c.args.line.now in
    let (text, audited, answers, known, appended) = c.in-Ok.ensures in
    let later : was.last < line.n = omega arith in
    let reply = λ (t : List ℕ) (a : Bool). let one : ReplyText = record { text = t; audited = a } in IsReply g.N.Naming.terms (book_in g.N.Scripted.symbols) g.N.Scripted.script one in
    subst (reply c.answer-replied.new.out.items) (sym known)
    (subst (λ (t : List ℕ). reply t audited) (sym (subst (λ (l : List ℕ). c.answer-replied.new.out.items ≡ l ++ text) c.new-text.ensures.items appended.text))
    (answered_line g.N.Naming.terms (book_in g.N.Scripted.symbols) g.N.Scripted.script was.last (held_by was.sitting) line.n (Some line.bytes.items) text audited
    (held_by c.answer-replied.new.sitting) was.answered later line.line (rw (c.new-numbered.ensures.0, c.new-numbered.ensures.1 ∙ ap Some c.deref.ensures.value) at answers)).1)
