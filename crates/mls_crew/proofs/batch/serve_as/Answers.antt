use Rattle.std.proofs.Common.{IfOk, subst}
use Rattle.mls_seat_lines.specs.SymbolTables.{SymbolTable, book_in}
use Rattle.mls_crew.specs.Scripts.{GivesBatch}
use Rattle.mls_crew.proofs.batch.serve_as.Goals as goal

pub returns : goal.returns
returns g c =
    subst (λ (symbols : SymbolTable). IfOk c.serve_at.result (λ output. GivesBatch g.N.Naming.terms (book_in symbols) c.args.script.now output.audited output.text.items))
    c.in_ok-symbols.ensures c.serve_at.ensures
