use Rattle.std.proofs.Common.{length, refl, ◌∙◌}
use Rattle.mls_errorplane.specs.Jobs.{HasGrabbed}
use Rattle.mls_session.proofs.LentDesigns.{HasLayout-lent, said_of-lent}
use Rattle.mls_session.proofs.design.Design.grab.Goals as goal

pub grab-requires : goal.grab-requires
grab-requires c = record {
  layout = HasLayout-lent c.args.setup.now c.args.workspace.now.pool c.self.inside c.args.self.now c.self.view_is c.requires.ready.home c.self.invariant.0 c.context-context.result.uses.library.now c.context-context.ensures.library c.deref-2.result.now c.deref-2.ensures.value c.requires.ready.can_dump c.requires.ready.made_for;
}

pub returns-clause-grabbed : goal.returns-clause-grabbed
returns-clause-grabbed c =
    said_of-lent (λ rules layout planes limit before. HasGrabbed rules (length planes) layout before c.grab.result)
    c.args.setup.now c.args.workspace.now.pool c.self.inside c.args.self.now c.self.view_is c.context-context.result c.deref-2.result.now c.self.inside.quota
    (record { rules = c.context-context.ensures.rules; library = c.context-context.ensures.library; list = c.context-context.ensures.list ∙ c.deref.ensures.value; planes = c.deref-2.ensures.value; limit = refl }) c.grab.ensures.grabbed
