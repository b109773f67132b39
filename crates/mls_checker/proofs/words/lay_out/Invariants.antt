use Rattle.std.proofs.Common.{◌≡◌, ℕ, ◌||◌, ◌&&◌, length, take}
use Rattle.std.specs.Prelude.{nat_lt}
use Rattle.mls_checker.specs.Grids.{has_column, stacked}
use Rattle.mls_checker.proofs.words.lay_out.Given as goal

-- each row has the columns of the stacks of the rows before this one, too
abbrev pub invariant-loop-row : goal.invariant-loop-row
invariant-loop-row l = record {
  same : length l.words ≡ length l.fn.words;
  squares : (row column : ℕ) → has_column l.words row column ≡ (has_column l.fn.words row column || (nat_lt row (length l.fn.words) && stacked 16 (take l.row l.stacks) row column));
}
