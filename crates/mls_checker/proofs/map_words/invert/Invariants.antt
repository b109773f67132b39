use Rattle.std.proofs.Common.{◌≡◌, ℕ, ◌<◌, ◌≤◌, not}
use Rattle.mls_checker.specs.Grids.{has_column}
use Rattle.mls_checker.proofs.map_words.invert.Given as goal

-- the rows before this one have the columns that they hadn't, and the others have theirs still
abbrev pub invariant-loop-row : goal.invariant-loop-row
invariant-loop-row l = record {
  done : (row column : ℕ) → row < l.row → column < 64 → has_column l.map row column ≡ not (has_column l.fn.map row column);
  rest : (row column : ℕ) → l.row ≤ row → has_column l.map row column ≡ has_column l.fn.map row column;
}
