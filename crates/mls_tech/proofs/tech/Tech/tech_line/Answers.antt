use Rattle.std.proofs.Common.{sym, ◌∙◌}
use Rattle.mls_tech.proofs.UnbrokenLines.{first_word-unbroken}
use Rattle.mls_tech.proofs.tech.Tech.tech_line.Goals as goal

pub invariant_of-self : goal.invariant_of-self
invariant_of-self c =
    record {
      limits = c.self.invariant.limits;
      named = c.self.invariant.named;
      unbroken = rw c.in_ok-from_slice.ensures (first_word-unbroken _ _ _ (sym c.new.ensures ∙ c.in-Some.ensures.steps) c.requires.unbroken);
    }
