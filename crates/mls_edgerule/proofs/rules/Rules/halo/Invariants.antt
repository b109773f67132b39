use Rattle.std.proofs.Common.{◌≡◌, ◌≤◌, max, drop}
use Rattle.mls_edgerule.specs.Halos.{halo_of}
use Rattle.mls_edgerule.proofs.rules.Rules.halo.Given as goal

abbrev pub invariant-loop-rule : goal.invariant-loop-rule
invariant-loop-rule l = record {
  value : max l.reach (halo_of (drop l.rule-index l.rule-items)) ≡ halo_of l.self;
  least : 1 ≤ l.reach;
  most : l.reach ≤ 256;
}
