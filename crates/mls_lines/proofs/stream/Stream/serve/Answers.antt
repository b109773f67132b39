use Rattle.std.proofs.Common.{IfErr, IfOk, subst}
use Rattle.mls_seat_lines.specs.mls_server.Servers.{world_of}
use Rattle.mls_seat_lines.specs.mls_server.Settings.{terms_for}
use Rattle.mls_seat_lines.specs.mls_wire.Serving.{Gains}
use Rattle.mls_seat_lines.specs.SymbolTables.{SymbolTable, book_in}
use Rattle.mls_lines.specs.Scripts.{AreReplies, EndsStream}
use Rattle.mls_lines.proofs.stream.Stream.serve.Goals as goal

pub returns-clause-served : goal.returns-clause-served
returns-clause-served g c =
    let terms = terms_for (world_of c.args.self.server).setting in
    let script = g.I.Read.remaining c.args.input.now.device in
    subst (λ (names : SymbolTable). IfOk c.serve_as.result
    (λ served. Gains (g.W.Write.contents c.args.output.now.device) (g.W.Write.contents c.serve_as.new.output.device) (AreReplies terms (book_in names) script served.audited)))
    c.requires.symbols c.serve_as.ensures.served

pub returns-clause-failed : goal.returns-clause-failed
returns-clause-failed g c =
    let terms = terms_for (world_of c.args.self.server).setting in
    let script = g.I.Read.remaining c.args.input.now.device in
    subst (λ (names : SymbolTable). IfErr c.serve_as.result
    (λ fault. EndsStream terms (book_in names) script fault c.serve_as.new.input g.W.Write.contents c.args.output.now c.serve_as.new.output))
    c.requires.symbols c.serve_as.ensures.failed
