use Rattle.mls_seat_lines.specs.mls_wire.Serving.{Gains}
use Rattle.mls_seat_lines.specs.SymbolTables.{book_in}
use Rattle.mls_lines.specs.Scripts.{AreReplies}
use Rattle.mls_lines.proofs.writing.write_replies.Given as goal

abbrev pub invariant-loop : goal.invariant-loop
invariant-loop g l =
    Gains (g.W.Write.contents l.fn.output.device) (g.W.Write.contents l.output.device)
    (AreReplies g.N.Naming.terms (book_in g.N.Scripted.symbols) g.N.Scripted.script l.audited)
