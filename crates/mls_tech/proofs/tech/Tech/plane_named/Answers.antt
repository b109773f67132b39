use Rattle.std.proofs.Common.{◌<◌, sym, ◌∙◌}
use Rattle.mls_tech.proofs.NameLemmas.{number_named-holds}
use Rattle.mls_tech.proofs.tech.Tech.plane_named.Goals as goal

pub returns-clause-known : goal.returns-clause-known
returns-clause-known c =
    let fields = c.self.inside in
    let named = sym c.number_of.ensures ∙ c.in_ok-number.was in
    rw (c.new.ensures, ← c.self.view_is) (number_named-holds (λ plane. plane < fields.plane_count) fields.planes c.args.name.now c.self.invariant.limits.planes_named c.in_ok-number.number named)
