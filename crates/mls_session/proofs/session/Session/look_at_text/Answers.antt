use Rattle.std.proofs.Common.{subst}
use Rattle.mls_session.proofs.Common.{Session, kept_of, terms_of}
use Rattle.mls_session.specs.declared.look.Look.TheVariants.{Save}
use Rattle.mls_session.specs.declared.look.Looked.TheVariants.{Saved}
use Rattle.mls_session.proofs.JournalledCommands.{seen}
use Rattle.mls_session.proofs.SessionLooks.{Looks-save, LooksMore}
use Rattle.mls_session.proofs.session.Session.look_at_text.Goals as goal

pub returns-in-Ok-clause-looks : goal.returns-in-Ok-clause-looks
returns-in-Ok-clause-looks c =
    let terms = terms_of c.args.setup.now c.args.workspace.now.pool in
    let longer = c.push_text.new.out.items in
    subst (λ (s : Session). LooksMore terms (kept_of c.args.workspace.now.pool s) Save (Saved c.in-Ok.lines) c.args.out.now.items longer) c.self.view_is
    (Looks-save terms (kept_of c.args.workspace.now.pool (seen c.self.inside.design c.self.inside.journal)) c.in-Ok.lines c.args.out.now.items longer c.in-Ok.ensures.count c.in-Ok.ensures.text)
