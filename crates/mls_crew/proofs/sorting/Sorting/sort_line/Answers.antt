use Rattle.std.proofs.Common.{refl}
use Rattle.mls_seat_lines.proofs.mls_wire.Results.{on_ok-map}
use Rattle.mls_seat_lines.specs.SymbolTables.{book_in}
use Rattle.mls_crew.specs.Sorting.{faulty}
use Rattle.mls_crew.proofs.sorting.Sorting.sort_line.Goals as goal

pub returns-in-Err-clause-sorts : goal.returns-in-Err-clause-sorts
returns-in-Err-clause-sorts g c =
    rw c.in-Err.is (on_ok-map c.refuse.result _ _ (λ is. (faulty (book_in c.args.opener.now.symbols.now) c.args.n c.in-Err.fault c.args.self.now.opened, refl, is)) c.refuse.ensures)
