-- Compiled rules in an array, their numbers, and how many there may be. The limit is this project's own.
use Rattle.std.specs.Prelude.{◌≡◌, ◌≤◌, ℕ, ◌-◌, ◌==◌, if◌then◌else◌, Option, None, List, ◌++◌, length, take, replicate, slice_get}
use Rattle.mls_edgerule.specs.declared.directions.Directions.TheVariants.{RightAndUp}
use Rattle.mls_edgerule.specs.declared.edge_rule.EdgeRule.{EdgeRule}

-- the most rules that a technology may have
abbrev pub rule_limit : ℕ
rule_limit = 128

-- rule n, from 1
abbrev pub rule_numbered : List EdgeRule → ℕ → Option EdgeRule
rule_numbered rules n = if n == 0 then None else slice_get rules (n - 1)

-- the content of a place without a rule
abbrev pub no_rule : EdgeRule
no_rule = record {
  types1 = 0;
  types2 = 0;
  ok_types = 0;
  corner_types = 0;
  distance = 1;
  corner_distance = 0;
  directions = RightAndUp;
  trigger_plane = 0;
  check_plane = 0;
}

-- the rules, and after them places without a rule
abbrev pub padded : List EdgeRule → List EdgeRule
padded rules = rules ++ replicate (rule_limit - length rules) no_rule

-- the array has this number of rules
pub record KeepsRules (rules : List EdgeRule) (len : ℕ) : Type 0 where
  pub within : len ≤ rule_limit
  pub taken : length (take len rules) ≡ len
  pub rest : padded (take len rules) ≡ rules
