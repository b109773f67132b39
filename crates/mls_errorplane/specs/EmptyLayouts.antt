-- Which rules forbid the squares of an empty layout. No public contract names this.
use Rattle.std.specs.Prelude.{Bool, not, ◌||◌, ◌&&◌, nat_lt}
use Rattle.mls_edgerule.specs.declared.edge_rule.EdgeRule.{EdgeRule}
use Rattle.mls_kinds.specs.KindSets.{has_bit as has_type}

-- the rule has edges between two squares of space, doesn't allow space there, and its rows or its corner blocks have squares
abbrev pub forbids_space : EdgeRule → Bool
forbids_space rule =
    has_type rule.types1 0
    && has_type rule.types2 0
    && not (has_type rule.ok_types 0)
    && (nat_lt 0 rule.distance || (nat_lt 0 rule.corner_distance && has_type rule.corner_types 0))
