use Rattle.std.proofs.Common.{◌≡◌, ℕ, ◌-◌, ◌≤◌, ◌||◌, ◌&&◌, not, nat_lt}
use Rattle.mls_checker.specs.Grids.{has_column}
use Rattle.mls_checker.proofs.map_words.add_but.Given as goal

-- the rows before this one have gained their columns
abbrev pub invariant-loop-row : goal.invariant-loop-row
invariant-loop-row l = (row column : ℕ) → l.words ≤ row → has_column l.map row column
    ≡ (has_column l.fn.map row column || (nat_lt row l.row && (has_column l.other (row - l.words) column && not (has_column l.but row column))))
