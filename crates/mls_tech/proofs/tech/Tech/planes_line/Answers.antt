use Rattle.mls_tech.specs.Names.{is_name}
use Rattle.mls_tech.proofs.Limits.{IsWithinLimits-plane}
use Rattle.mls_tech.proofs.tech.Tech.planes_line.Goals as goal

pub invariant_of-self-2 : goal.invariant_of-self-2
invariant_of-self-2 c =
    record {
      limits = IsWithinLimits-plane is_name _ _ _ _ c.self.invariant.limits _ _ c.if-self-ge-MAX_PLANES.false (rw c.replace-planes.ensures.value at c.in_ok-add_names.ensures);
      named = c.self.invariant.named;
      unbroken = c.self.invariant.unbroken;
    }
