use Rattle.std.proofs.Common.{◌∙◌}
use Rattle.mls_session.specs.Common.{AreRightIn, Steps, checking_of, flat_layout}
use Rattle.mls_session.proofs.LentDesigns.{HasLayout-lent, KeepsDrawn-returned, StandsApart-lent, said_of-lent}
use Rattle.mls_session.proofs.design.Design.settle.Goals as goal

pub settle-requires-clause-layout : goal.settle-requires-clause-layout
settle-requires-clause-layout c =
    HasLayout-lent c.args.setup.now c.args.workspace.now.pool c.self.inside c.args.self.now c.self.view_is c.requires.ready.home c.self.invariant.0 c.context-context.result.uses.library.now c.context-context.ensures.library c.deref-2.result.now c.deref-2.ensures.value c.requires.ready.can_dump c.requires.ready.made_for

pub settle-requires-clause-apart : goal.settle-requires-clause-apart
settle-requires-clause-apart c =
    StandsApart-lent c.args.setup.now c.args.workspace.now.pool c.self.inside c.args.self.now c.self.view_is c.requires.ready.home c.self.invariant.0 c.context-context.result.uses.library.now c.context-context.ensures.library c.deref-2.result.now c.deref-2.ensures.value c.requires.ready.can_dump

pub settle-requires-clause-right : goal.settle-requires-clause-right
settle-requires-clause-right c =
    said_of-lent (λ rules layout planes limit before. AreRightIn rules layout before.marks c.args.checked.now → AreRightIn c.context-context.result.rules.now (flat_layout c.args.workspace.now.pool c.context-context.result.uses c.deref-2.result.now) (checking_of c.args.workspace.now.pool c.self.inside.errors).marks c.args.checked.now)
    c.args.setup.now c.args.workspace.now.pool c.self.inside c.args.self.now c.self.view_is c.context-context.result c.deref-2.result.now c.get-limit.result
    (record { rules = c.context-context.ensures.rules; library = c.context-context.ensures.library; list = c.context-context.ensures.list ∙ c.deref.ensures.value; planes = c.deref-2.ensures.value; limit = c.get-limit.ensures.value }) (λ right. right) c.requires.right

pub returns-clause-steps : goal.returns-clause-steps
returns-clause-steps c =
    said_of-lent (λ rules layout planes limit before. Steps rules layout limit c.settle.result before (checking_of c.settle.new.workspace.pool c.settle.new.self))
    c.args.setup.now c.args.workspace.now.pool c.self.inside c.args.self.now c.self.view_is c.context-context.result c.deref-2.result.now c.get-limit.result
    (record { rules = c.context-context.ensures.rules; library = c.context-context.ensures.library; list = c.context-context.ensures.list ∙ c.deref.ensures.value; planes = c.deref-2.ensures.value; limit = c.get-limit.ensures.value }) c.settle.ensures.steps

pub returns-clause-right : goal.returns-clause-right
returns-clause-right c =
    said_of-lent (λ rules layout planes limit before. AreRightIn rules layout (checking_of c.settle.new.workspace.pool c.settle.new.self).marks c.settle.new.checked)
    c.args.setup.now c.args.workspace.now.pool c.self.inside c.args.self.now c.self.view_is c.context-context.result c.deref-2.result.now c.get-limit.result
    (record { rules = c.context-context.ensures.rules; library = c.context-context.ensures.library; list = c.context-context.ensures.list ∙ c.deref.ensures.value; planes = c.deref-2.ensures.value; limit = c.get-limit.ensures.value }) c.settle.ensures.right

pub returns-clause-keeps : goal.returns-clause-keeps
returns-clause-keeps c =
    KeepsDrawn-returned c.args.workspace.now.pool c.settle.new.workspace.pool c.self.inside c.args.self.now c.self.view_is c.settle.new.self c.requires.ready.home c.settle.ensures.only c.settle.ensures.marks c.settle.ensures.owner
