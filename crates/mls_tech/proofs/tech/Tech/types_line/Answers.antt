use Rattle.std.proofs.Common.{rules, ◌≡◌, ◌+◌, ◌<◌, length, ap, subst, sym, ◌∙◌, arith}
use Rattle.mls_tech.specs.Names.{is_type_name}
use Rattle.mls_tech.proofs.Limits.{IsWithinLimits-type}
use Rattle.mls_tech.proofs.TypeNames.{HasNames-type}
use Rattle.mls_tech.proofs.tech.Tech.types_line.Goals as goal

pub invariant_of-self-2 : goal.invariant_of-self-2
invariant_of-self-2 c =
    let fields = c.self.inside in
    let plane = c.in_ok-plane.plane in
    let count : c.kinds-kind.result ≡ length fields.type_planes.items + 1 = c.kinds-kind.ensures.value ∙ sym (ap (λ tech. length tech.type_planes + 1) c.self.view_is) in
    let there : plane < c.args.self.now.plane_count = search rules in
    let known : plane < fields.plane_count = subst (λ tech. plane < tech.plane_count) (sym c.self.view_is) there in
    let names = rw (count, c.replace-types.ensures.value) at c.in_ok-add_names.ensures in
    rw (c.in_ok-push.ensures.items, c.replace-type_planes.ensures.value) (record {
      limits = IsWithinLimits-type is_type_name _ _ _ _ c.self.invariant.limits _ _ plane known (omega arith) names;
      named = HasNames-type _ _ c.self.invariant.named plane c.in-Some-Some-None.names.now _ names;
      unbroken = c.self.invariant.unbroken;
    })
