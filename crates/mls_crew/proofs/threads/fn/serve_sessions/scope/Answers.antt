use Rattle.std.proofs.Common.{◌≡◌, false}
use Rattle.std.proofs.lemmas.Result.{IfOk-weaker}
use Rattle.mls_seat_lines.specs.SymbolTables.{book_in}
use Rattle.mls_crew.specs.Scripts.{GivesGroups}
use Rattle.mls_crew.proofs.threads.fn.serve_sessions.scope.Goals as goal

pub returns : goal.returns
returns g c =
    let served = c.in_ok-served.served in
    let part = c.captures.part in
    IfOk-weaker c.retired.result (λ groups. (served.failed ≡ false) × (groups ≡ served.groups))
    (λ groups. GivesGroups g.N.Naming.terms (book_in part.symbols.now) part.sorting.now groups.items) (λ groups h. rw (h.1) (c.in_ok-served.ensures (h.0))) c.retired.ensures
