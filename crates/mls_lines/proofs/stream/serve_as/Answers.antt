use Rattle.mls_seat_lines.proofs.mls_wire.Results.{if_err}
use Rattle.mls_seat_lines.specs.mls_wire.declared.serving.ServeFault.TheVariants.{Memory, Write}
use Rattle.mls_seat_lines.specs.SymbolTables.{book_in}
use Rattle.mls_lines.specs.Scripts.{EndsStream}
use Rattle.mls_lines.proofs.EndLemmas.{reading_ends}
use Rattle.mls_lines.proofs.ReplyLemmas.{replies_none, replies_some}
use Rattle.mls_lines.proofs.stream.serve_as.Goals as goal

pub returns-in_err-ends-clause-failed : goal.returns-in_err-ends-clause-failed
returns-in_err-ends-clause-failed g c =
    if_err c.from_residual.result Memory (λ fault. EndsStream g.N.Naming.terms (book_in g.N.Scripted.symbols) g.N.Scripted.script fault c.args.input.now g.W.Write.contents c.args.output.now c.args.output.now)
    c.from_residual.ensures (replies_some g.N.Naming.terms (book_in g.N.Scripted.symbols) g.N.Scripted.script _ _ _ (replies_none g.N.Naming.terms (book_in g.N.Scripted.symbols) g.N.Scripted.script (g.W.Write.contents c.args.output.now.device)))

pub returns-in_err-audited-clause-failed : goal.returns-in_err-audited-clause-failed
returns-in_err-audited-clause-failed g c =
    if_err c.from_residual-in_err-audited.result Write
    (λ fault. EndsStream g.N.Naming.terms (book_in g.N.Scripted.symbols) g.N.Scripted.script fault c.run-read.new.input g.W.Write.contents c.args.output.now c.run-read.new.output)
    c.from_residual-in_err-audited.ensures (rw c.in_err-audited.was at c.run-read.ensures.written.2, rw c.in_err-audited.was at c.run-read.ensures.written.1)

pub returns-in_err-read-clause-failed : goal.returns-in_err-read-clause-failed
returns-in_err-read-clause-failed g c =
    let fault = c.in_err-read.field-0.0 in
    if_err c.from_residual-in_err-read.result fault
    (λ given. EndsStream g.N.Naming.terms (book_in g.N.Scripted.symbols) g.N.Scripted.script given c.run-read.new.input g.W.Write.contents c.args.output.now c.run-read.new.output)
    c.from_residual-in_err-read.ensures
    (reading_ends g.N.Naming.terms (book_in g.N.Scripted.symbols) g.N.Scripted.script fault c.run-read.new.input g.W.Write.contents c.args.output.now c.run-read.new.output
    (rw c.in_err-read.was at c.run-read.ensures.read.1) (rw c.in_err-read.was at c.run-read.ensures.read.0)
    (replies_some g.N.Naming.terms (book_in g.N.Scripted.symbols) g.N.Scripted.script _ _ _ (rw c.in_ok-audited.was at c.run-read.ensures.written.0)))

pub returns-in_err-answered-clause-failed : goal.returns-in_err-answered-clause-failed
returns-in_err-answered-clause-failed g c =
    if_err c.from_residual-in_err-answered.result Memory
    (λ fault. EndsStream g.N.Naming.terms (book_in g.N.Scripted.symbols) g.N.Scripted.script fault c.run-read.new.input g.W.Write.contents c.args.output.now c.run-read.new.output)
    c.from_residual-in_err-answered.ensures (replies_some g.N.Naming.terms (book_in g.N.Scripted.symbols) g.N.Scripted.script _ _ _ (rw c.in_ok-audited.was at c.run-read.ensures.written.0))

pub returns-then-is_closed-clause-failed : goal.returns-then-is_closed-clause-failed
returns-then-is_closed-clause-failed g c =
    replies_some g.N.Naming.terms (book_in g.N.Scripted.symbols) g.N.Scripted.script _ _ _ (rw c.in_ok-audited.was at c.run-read.ensures.written.0)
