use Rattle.std.proofs.Common.{◌≡◌, ◌+◌, [], length, take, vec_len}
use Rattle.mls_seat_lines.specs.SymbolTables.{book_in}
use Rattle.mls_crew.specs.Sorting.{Sorts}
use Rattle.mls_crew.proofs.sorting.sort.Given as goal

abbrev pub invariant-loop-read : goal.invariant-loop-read
invariant-loop-read g l = record {
  sorts : Sorts (book_in l.opener.symbols.now) 1 [] (take l.read-index l.script) l.sorting;
  paired : length l.sorting.opened ≡ vec_len l.seats;
  numbered : l.n ≡ l.read-index + 1;
}
