use Rattle.std.proofs.Common.{ap, ◌∙◌, List, ℕ}
use Rattle.mls_session.proofs.Common.{Entry, JournalCopy, Session, kept_of}
use Rattle.mls_session.specs.declared.session.Session.TheInside.{Inside}
use Rattle.mls_session.proofs.SessionLooks.{Looks-journal}
use Rattle.mls_session.proofs.session.Session.look_at_journal.Goals as goal

pub returns-in-Ok : goal.returns-in-Ok
returns-in-Ok c terms =
    let made : List Entry → ℕ → JournalCopy = λ all since. record { entries = all; steps = since } in
    let entries = c.entries.ensures ∙ ap (λ (s : Session). s.journal) c.self.view_is in
    let checks = ap (λ (inside : Inside). inside.journal.checks) c.self-inside.view_is ∙ ap (λ (s : Session). s.checks) c.self.view_is in
    Looks-journal terms (kept_of c.args.pool.now c.args.self.now) c.in-Ok.copy
    (c.in-Ok.ensures ∙ ap (made c.entries.result.now) checks ∙ ap (λ (all : List Entry). made all c.args.self.now.checks) entries)
