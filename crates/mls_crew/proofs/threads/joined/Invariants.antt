use Rattle.std.proofs.Common.{◌≡◌, ◌+◌, ◌≤◌, ◌<◌, ℕ, false, get_or, length, vec_len, vec_capacity}
use Rattle.mls_seat_lines.specs.SymbolTables.{book_in}
use Rattle.mls_crew.specs.Countdowns.{CountsDown}
use Rattle.mls_crew.specs.Scripts.{GivesPart, no_text}
use Rattle.mls_crew.proofs.threads.joined.Given as goal

abbrev pub invariant-loop-handle : goal.invariant-loop-handle
invariant-loop-handle g l = record {
  part : l.served.part ≡ l.fn.served.part;
  count : vec_len l.served.seats + vec_len l.handles ≡ vec_len l.fn.handles;
  seats : vec_len l.fn.handles ≤ vec_capacity l.served.seats;
  room : vec_len l.fn.handles ≤ vec_capacity l.served.groups;
  fewer : vec_len l.served.groups ≤ vec_len l.served.seats;
  wanted : vec_len l.fn.handles ≡ length l.fn.served.part.sorting.now.opened
      → CountsDown (λ session handle. handle.promise ≡ record l.fn.served.part { session = session }) (vec_len l.served.seats) l.handles.items;
  groups : vec_len l.fn.handles ≡ length l.fn.served.part.sorting.now.opened → l.served.failed ≡ false → (vec_len l.served.groups ≡ vec_len l.served.seats)
      × ((session : ℕ) → session < vec_len l.served.groups
      → GivesPart g.N.Naming.terms (book_in l.fn.served.part.symbols.now) l.fn.served.part.sorting.now session (get_or l.served.groups.items session no_text));
}

abbrev pub decreases-loop-handle : goal.decreases-loop-handle
decreases-loop-handle g l = vec_len l.handles
