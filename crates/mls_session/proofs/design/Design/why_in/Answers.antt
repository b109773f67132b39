use Rattle.std.proofs.Common.{IfOk, ◌≡◌, refl, ◌∙◌}
use Rattle.mls_checker.specs.Findings.{violated_rules}
use Rattle.mls_session.proofs.LentDesigns.{HasLayout-lent, said_of-lent}
use Rattle.mls_session.proofs.design.Design.why_in.Goals as goal

pub why-requires : goal.why-requires
why-requires c = record {
  layout = HasLayout-lent c.args.setup.now c.args.workspace.now.pool c.self.inside c.args.self.now c.self.view_is c.requires.ready.home c.self.invariant.0 c.context-context.result.uses.library.now c.context-context.ensures.library c.deref-2.result.now c.deref-2.ensures.value c.requires.ready.can_dump c.requires.ready.made_for;
}

pub returns-clause-value : goal.returns-clause-value
returns-clause-value c =
    said_of-lent (λ rules layout planes limit before. IfOk c.why.result (λ violated. violated ≡ violated_rules rules c.args.rect layout))
    c.args.setup.now c.args.workspace.now.pool c.self.inside c.args.self.now c.self.view_is c.context-context.result c.deref-2.result.now c.self.inside.quota
    (record { rules = c.context-context.ensures.rules; library = c.context-context.ensures.library; list = c.context-context.ensures.list ∙ c.deref.ensures.value; planes = c.deref-2.ensures.value; limit = refl }) c.why.ensures.value
