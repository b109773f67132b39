use Rattle.std.proofs.Common.{ap, ◌∙◌}
use Rattle.mls_session.specs.declared.session.Session.TheInside.{Inside}
use Rattle.mls_session.specs.Sessions.{Session, kept_of}
use Rattle.mls_session.proofs.SessionLooks.{Looks-uses}
use Rattle.mls_session.proofs.session.Session.look_at_uses.Goals as goal

pub returns-in-Ok : goal.returns-in-Ok
returns-in-Ok c terms =
    let placed = ap (λ (inside : Inside). inside.design.uses) c.self-inside.view_is in
    let own = ap (λ (s : Session). s.design.uses) c.self.view_is in
    Looks-uses terms (kept_of c.args.pool.now c.args.self.now) c.new.result (c.new.ensures ∙ c.in-Ok.ensures.items ∙ c.deref.ensures.value ∙ placed ∙ own)
