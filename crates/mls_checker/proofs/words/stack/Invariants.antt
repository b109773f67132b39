use Rattle.std.proofs.Common.{◌≡◌, ℕ, ◌-◌, ◌≤◌, ◌||◌, ◌&&◌}
use Rattle.mls_kinds.specs.KindSets.{has_bit}
use Rattle.mls_checker.specs.Grids.{is_between, stacked}
use Rattle.mls_checker.proofs.words.stack.Given as goal

-- the rows before this one have the columns too
abbrev pub invariant-stacks : goal.invariant-stacks
invariant-stacks l = record {
  on : l.from ≤ l.row;
  within : l.row ≤ l.to;
  squares : (row column : ℕ) → stacked 16 l.stacks row column ≡ (stacked 16 l.fn.stacks row column || (is_between l.from l.row row && has_bit l.columns column));
}

abbrev pub decreases-stacks : goal.decreases-stacks
decreases-stacks l = l.to - l.row
