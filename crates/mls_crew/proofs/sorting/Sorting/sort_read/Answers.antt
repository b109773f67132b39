use Rattle.std.proofs.Common.{[], refl}
use Rattle.mls_seat_lines.proofs.mls_wire.Results.{on_ok-map}
use Rattle.mls_seat_lines.specs.mls_wire.declared.line.LineFault.TheVariants.{UnknownCommand}
use Rattle.mls_seat_lines.specs.SymbolTables.{book_in}
use Rattle.mls_crew.specs.Sorting.{at_once, faulty}
use Rattle.mls_crew.proofs.SortedLines.{followed_by_none}
use Rattle.mls_crew.proofs.sorting.Sorting.sort_read.Goals as goal

pub returns-in-Silent-clause-sorts : goal.returns-in-Silent-clause-sorts
returns-in-Silent-clause-sorts g c = rw c.in-Silent.is (at_once c.args.self.now.opened [], refl, followed_by_none c.args.self.now)

pub returns-in-Close-clause-sorts : goal.returns-in-Close-clause-sorts
returns-in-Close-clause-sorts g c =
    rw c.in-Close.is (on_ok-map c.refuse.result _ _ (λ is. (faulty (book_in c.args.opener.now.symbols.now) c.args.n UnknownCommand c.args.self.now.opened, refl, is)) c.refuse.ensures)

pub returns-in-Step-clause-sorts : goal.returns-in-Step-clause-sorts
returns-in-Step-clause-sorts g c =
    rw c.in-Step.is (on_ok-map c.refuse-in-Step.result _ _ (λ is. (faulty (book_in c.args.opener.now.symbols.now) c.args.n UnknownCommand c.args.self.now.opened, refl, is)) c.refuse-in-Step.ensures)

pub returns-in-Steps-clause-sorts : goal.returns-in-Steps-clause-sorts
returns-in-Steps-clause-sorts g c =
    rw c.in-Steps.is (on_ok-map c.refuse-in-Steps.result _ _ (λ is. (faulty (book_in c.args.opener.now.symbols.now) c.args.n UnknownCommand c.args.self.now.opened, refl, is)) c.refuse-in-Steps.ensures)
