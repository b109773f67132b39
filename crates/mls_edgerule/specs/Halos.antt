-- How far rules reach (Taylor and Ousterhout 1984).
use Rattle.std.specs.Prelude.{ℕ, ◌+◌, max, List, [], ◌∷◌}
use Rattle.mls_edgerule.specs.declared.edge_rule.EdgeRule.{EdgeRule}

-- one more than the greatest distance or corner distance; 1 where there are no rules
abbrev pub halo_of : List EdgeRule → ℕ
halo_of [] = 1
halo_of (rule ∷ rules) = max (1 + max rule.distance rule.corner_distance) (halo_of rules)
