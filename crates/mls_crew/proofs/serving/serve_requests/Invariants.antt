use Rattle.std.proofs.Common.{◌≡◌, ◌++◌, ℕ, List, take}
use Rattle.mls_seat_lines.specs.mls_live.Lists.{list_of}
use Rattle.mls_seat_lines.specs.SymbolTables.{book_in}
use Rattle.mls_crew.specs.Groups.{ServesRequests, requests_handed}
use Rattle.mls_crew.proofs.serving.serve_requests.Given as goal

-- the lines so far gave this text
abbrev pub invariant-loop-handed : goal.invariant-loop-handed
invariant-loop-handed g l =
    (text : List ℕ) × ServesRequests g.N.Naming.terms (book_in l.part.symbols.now) l.name (list_of l.fn.seat) (requests_handed l.part.session (take l.handed-index l.lines)) text (list_of l.seat)
    × (l.out.items ≡ l.fn.out.items ++ text)
