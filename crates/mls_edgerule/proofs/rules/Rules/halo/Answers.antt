-- A halo is never 0.
use Rattle.std.proofs.Common.{◌≡◌, ◌≤◌, max, List, [], ◌∷◌, arith}
use Rattle.mls_edgerule.specs.Halos.{halo_of}
use Rattle.mls_edgerule.specs.declared.edge_rule.EdgeRule.{EdgeRule}
use Rattle.mls_edgerule.proofs.rules.Rules.halo.Goals as goal

halo-positive : (rules : List EdgeRule) → 1 ≤ halo_of rules
halo-positive [] = omega arith
halo-positive (rule ∷ rules) = omega arith

halo_from_one : (rules : List EdgeRule) → max 1 (halo_of rules) ≡ halo_of rules
halo_from_one rules = omega (arith, halo-positive rules)

pub loop-rule-init : goal.loop-rule-init
loop-rule-init c = record {
  value = rw c.self.view_is (halo_from_one c.args.self.now);
  least = omega arith;
  most = omega arith;
}
