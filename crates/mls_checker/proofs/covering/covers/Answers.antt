use Rattle.std.proofs.Common.{◌≡◌, true, sym, subst, arith, rules}
use Rattle.mls_edgerule.specs.declared.edge_rule.EdgeRule.{EdgeRule}
use Rattle.mls_checker.specs.Forbids.{forbids}
use Rattle.mls_checker.proofs.LongerReaches.{forbids-longer, reaching}
use Rattle.mls_checker.proofs.covering.covers.Goals as goal

pub returns : goal.returns
returns c same layout p some =
    let rule = c.args.rule.now in
    let other = c.args.other.now in
    let is : rule ≡ reaching other rule.distance rule.corner_distance = search rules in
    subst (λ (r : EdgeRule). forbids r layout p ≡ true) (sym is) (forbids-longer other layout rule.distance rule.corner_distance p (omega arith) (omega arith) some)
