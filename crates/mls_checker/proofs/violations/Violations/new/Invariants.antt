use Rattle.std.proofs.Common.{◌≡◌, ℕ, [], length}
use Rattle.mls_checker.specs.Violations.{areas_at}
use Rattle.mls_checker.proofs.violations.Violations.new.Given as goal

-- the lists so far have no areas
abbrev pub invariant-loop : goal.invariant-loop
invariant-loop l = record {
  as_many : length l.lists.items ≡ l.counter;
  none : (k : ℕ) → areas_at l.lists.items k ≡ [];
}
