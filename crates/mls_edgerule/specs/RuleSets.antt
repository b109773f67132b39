-- Sets of rules as numbers: rule n, counted from 1, is in a set where the number's bit n - 1 is 1. This project's own.
use Rattle.std.specs.Prelude.{ℕ, ◌-◌, ◌==◌, not, ◌||◌, ◌&&◌, List}
use Rattle.std.specs.List.{filter, range_with_len}
use Rattle.mls_kinds.specs.KindSets.{bits_where, has_bit}
use Rattle.mls_edgerule.specs.RuleLists.{rule_limit}

-- the numbers of the rules in a set, in rising order
unfoldable pub rules_in : ℕ → List ℕ
rules_in set = filter (λ n. has_bit set (n - 1)) (range_with_len 1 rule_limit)

-- the rules of either set
unfoldable pub union : ℕ → ℕ → ℕ
union set other = bits_where (λ k. has_bit set k || has_bit other k) rule_limit

-- the set with rule n
unfoldable pub with_rule : ℕ → ℕ → ℕ
with_rule set n = bits_where (λ k. has_bit set k || k == n - 1) rule_limit

-- the set without rule n
unfoldable pub without_rule : ℕ → ℕ → ℕ
without_rule set n = bits_where (λ k. has_bit set k && not (k == n - 1)) rule_limit
