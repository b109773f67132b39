use Rattle.std.proofs.Common.{ℕ, IfErr, IfOk, OnOk, ◌≡◌, ◌<◌, ◌≤◌, refl, subst, ◌∙◌}
use Rattle.mls_session.specs.Common.{IfTooMany, flat_layout, strip_count, violations_in}
use Rattle.mls_session.proofs.LentDesigns.{HasLayout-lent, said_of-lent}
use Rattle.mls_session.proofs.design.Design.violations_in.Goals as goal

pub violations-requires : goal.violations-requires
violations-requires c = record {
  layout = HasLayout-lent c.args.setup.now c.args.workspace.now.pool c.self.inside c.args.self.now c.self.view_is c.requires.ready.home c.self.invariant.0 c.context-context.result.uses.library.now c.context-context.ensures.library c.deref-2.result.now c.deref-2.ensures.value c.requires.ready.can_dump c.requires.ready.made_for;
}

pub returns-clause-value : goal.returns-clause-value
returns-clause-value c =
    said_of-lent (λ rules layout planes limit before. IfOk c.violations.result (λ found. found.items ≡ violations_in rules c.args.rect layout))
    c.args.setup.now c.args.workspace.now.pool c.self.inside c.args.self.now c.self.view_is c.context-context.result c.deref-2.result.now c.self.inside.quota
    (record { rules = c.context-context.ensures.rules; library = c.context-context.ensures.library; list = c.context-context.ensures.list ∙ c.deref.ensures.value; planes = c.deref-2.ensures.value; limit = refl }) c.violations.ensures.value

pub returns-clause-few : goal.returns-clause-few
returns-clause-few c =
    let of_quota = subst (λ (most : ℕ). OnOk c.violations.result (strip_count (violations_in c.context-context.result.rules.now c.args.rect (flat_layout c.args.workspace.now.pool c.context-context.result.uses c.deref-2.result.now)) ≤ most)) c.get-most.ensures.value c.violations.ensures.within in
    said_of-lent (λ rules layout planes limit before. OnOk c.violations.result (strip_count (violations_in rules c.args.rect layout) ≤ c.args.setup.now.quota))
    c.args.setup.now c.args.workspace.now.pool c.self.inside c.args.self.now c.self.view_is c.context-context.result c.deref-2.result.now c.self.inside.quota
    (record { rules = c.context-context.ensures.rules; library = c.context-context.ensures.library; list = c.context-context.ensures.list ∙ c.deref.ensures.value; planes = c.deref-2.ensures.value; limit = refl }) of_quota

pub returns-clause-too_many : goal.returns-clause-too_many
returns-clause-too_many c =
    let of_quota = subst (λ (most : ℕ). IfErr c.violations.result (λ fault. IfTooMany fault (most < strip_count (violations_in c.context-context.result.rules.now c.args.rect (flat_layout c.args.workspace.now.pool c.context-context.result.uses c.deref-2.result.now))))) c.get-most.ensures.value c.violations.ensures.too_many in
    said_of-lent (λ rules layout planes limit before. IfErr c.violations.result (λ fault. IfTooMany fault (c.args.setup.now.quota < strip_count (violations_in rules c.args.rect layout))))
    c.args.setup.now c.args.workspace.now.pool c.self.inside c.args.self.now c.self.view_is c.context-context.result c.deref-2.result.now c.self.inside.quota
    (record { rules = c.context-context.ensures.rules; library = c.context-context.ensures.library; list = c.context-context.ensures.list ∙ c.deref.ensures.value; planes = c.deref-2.ensures.value; limit = refl }) of_quota
