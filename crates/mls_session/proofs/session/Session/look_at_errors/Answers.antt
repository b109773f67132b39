use Rattle.std.proofs.Common.{Ok, subst}
use Rattle.mls_session.proofs.Common.{Errors, Session, state_of}
use Rattle.mls_session.proofs.JournalledCommands.{seen}
use Rattle.mls_session.proofs.SessionLooks.{ErrorsMore, ErrorsMore-text}
use Rattle.mls_session.proofs.session.Session.look_at_errors.Goals as goal

pub returns-in-Ok-error_text-clause-looks : goal.returns-in-Ok-error_text-clause-looks
returns-in-Ok-error_text-clause-looks c =
    let pool = c.args.workspace.now.pool in
    let tech = c.args.setup.now.tech in
    let checking = (state_of pool (seen c.self.inside.design c.self.inside.journal)).design.checking in
    let out = c.args.out.now.items in
    let longer = c.error_text.new.out.items in
    let lines = c.in-Ok-error_text.lines in
    rw c.in-Ok.is
    (subst (λ (s : Session). ErrorsMore tech (state_of pool s).design.checking (Ok c.in-Ok.rect) (Errors lines) out longer) c.self.view_is
    (ErrorsMore-text tech checking c.in-Ok.rect lines out longer c.in-Ok-error_text.ensures.count c.in-Ok-error_text.ensures.text))
