use Rattle.std.proofs.Common.{length, ◌∙◌}
use Rattle.mls_session.specs.Common.{HasFinished, checking_of}
use Rattle.mls_session.proofs.LentDesigns.{HasLayout-lent, KeepsDrawn-returned, said_of-lent}
use Rattle.mls_session.proofs.design.Design.finish.Goals as goal

pub finish-requires-clause-layout : goal.finish-requires-clause-layout
finish-requires-clause-layout c =
    HasLayout-lent c.args.setup.now c.args.workspace.now.pool c.self.inside c.args.self.now c.self.view_is c.requires.ready.home c.self.invariant.0 c.context-context.result.uses.library.now c.context-context.ensures.library c.deref-2.result.now c.deref-2.ensures.value c.requires.ready.can_dump c.requires.ready.made_for

pub returns-clause-finished : goal.returns-clause-finished
returns-clause-finished c =
    said_of-lent (λ rules layout planes limit before. HasFinished rules (length planes) layout limit before c.args.finding.now c.finish.result (checking_of c.finish.new.workspace.pool c.finish.new.self))
    c.args.setup.now c.args.workspace.now.pool c.self.inside c.args.self.now c.self.view_is c.context-context.result c.deref-2.result.now c.get-limit.result
    (record { rules = c.context-context.ensures.rules; library = c.context-context.ensures.library; list = c.context-context.ensures.list ∙ c.deref.ensures.value; planes = c.deref-2.ensures.value; limit = c.get-limit.ensures.value }) c.finish.ensures.finished

pub returns-clause-keeps : goal.returns-clause-keeps
returns-clause-keeps c =
    KeepsDrawn-returned c.args.workspace.now.pool c.finish.new.workspace.pool c.self.inside c.args.self.now c.self.view_is c.finish.new.self c.requires.ready.home c.finish.ensures.only c.finish.ensures.marks c.finish.ensures.owner
