use Rattle.std.proofs.Common.{◌≤◌, length, sym, ◌∙◌, arith}
use Rattle.mls_tech.proofs.NameLemmas.{number_named-holds}
use Rattle.mls_tech.proofs.tech.Tech.type_of.Goals as goal

pub returns-clause-known : goal.returns-clause-known
returns-clause-known c =
    let fields = c.self.inside in
    let named = sym c.number_of.ensures ∙ c.in_ok-number.was in
    rw (c.new.ensures, ← c.self.view_is) (number_named-holds (λ kind. kind ≤ length fields.type_planes.items) fields.types c.args.name.now c.self.invariant.limits.types_named c.in_ok-number.number named)

pub returns-clause-small : goal.returns-clause-small
returns-clause-small c =
    let fields = c.self.inside in
    let named = sym c.number_of.ensures ∙ c.in_ok-number.was in
    let known = number_named-holds (λ kind. kind ≤ length fields.type_planes.items) fields.types c.args.name.now c.self.invariant.limits.types_named c.in_ok-number.number named in
    rw c.new.ensures (omega (arith, known, c.self.invariant.limits.few_types))
