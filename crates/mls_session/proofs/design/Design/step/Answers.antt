use Rattle.std.proofs.Common.{◌∙◌}
use Rattle.mls_errorplane.specs.ErrorPlanes.{HasStepped, checking_of}
use Rattle.mls_session.proofs.LentDesigns.{HasLayout-lent, KeepsDrawn-returned, said_of-lent}
use Rattle.mls_session.proofs.design.Design.step.Goals as goal

pub step-requires-clause-layout : goal.step-requires-clause-layout
step-requires-clause-layout c =
    HasLayout-lent c.args.setup.now c.args.workspace.now.pool c.self.inside c.args.self.now c.self.view_is c.requires.ready.home c.self.invariant.0 c.context-context.result.uses.library.now c.context-context.ensures.library c.deref-2.result.now c.deref-2.ensures.value c.requires.ready.can_dump c.requires.ready.made_for

pub returns-clause-stepped : goal.returns-clause-stepped
returns-clause-stepped c =
    said_of-lent (λ rules layout planes limit before. HasStepped rules layout limit before c.step.result (checking_of c.step.new.workspace.pool c.step.new.self))
    c.args.setup.now c.args.workspace.now.pool c.self.inside c.args.self.now c.self.view_is c.context-context.result c.deref-2.result.now c.get-limit.result
    (record { rules = c.context-context.ensures.rules; library = c.context-context.ensures.library; list = c.context-context.ensures.list ∙ c.deref.ensures.value; planes = c.deref-2.ensures.value; limit = c.get-limit.ensures.value }) c.step.ensures.stepped

pub returns-clause-keeps : goal.returns-clause-keeps
returns-clause-keeps c =
    KeepsDrawn-returned c.args.workspace.now.pool c.step.new.workspace.pool c.self.inside c.args.self.now c.self.view_is c.step.new.self c.requires.ready.home c.step.ensures.only c.step.ensures.marks c.step.ensures.owner
