use Rattle.std.proofs.Common.{[], append-nil, length, sym, ap, subst, arith}
use Rattle.mls_session.specs.Looks.{Looks}
use Rattle.mls_session.specs.OwnSteps.{Terms}
use Rattle.mls_session.specs.Sessions.{kept_of}
use Rattle.mls_server.specs.Servers.{world_of}
use Rattle.mls_server.proofs.AskedSessions.{AreOpen-same, callable, is_asked, looks-none, own_text-asked, world_of-same}
use Rattle.mls_server.proofs.server.Server.look.Goals as goal

pub returns-in_err-place-clause-looks : goal.returns-in_err-place-clause-looks
returns-in_err-place-clause-looks c = ([], looks-none (world_of c.args.self.now) c.args.id c.args.look c.from_residual.result c.from_residual.ensures.0 c.in_err-place.ensures.missing, sym (append-nil c.args.out.now.items))

pub look-requires : goal.look-requires
look-requires c = callable (is_asked c.self.view_is c.self.invariant c.in_ok-place.ensures.place c.index_mut-asked.ensures.value)

pub invariant_of-self : goal.invariant_of-self
invariant_of-self c = AreOpen-same (is_asked c.self.view_is c.self.invariant c.in_ok-place.ensures.place c.index_mut-asked.ensures.value) c.look.ensures.pool

pub returns-clause-looks : goal.returns-clause-looks
returns-clause-looks c =
    let is = is_asked c.self.view_is c.self.invariant c.in_ok-place.ensures.place c.index_mut-asked.ensures.value in
    let said = c.look.ensures.looks in
    let kept = kept_of c.self.inside.workspace.pool c.index_mut-asked.result.now.session in
    (said.0, (kept, is.kept, subst (λ (terms : Terms). Looks terms kept c.args.look c.look.result said.0) is.terms said.1), said.2)

pub returns-clause-same : goal.returns-clause-same
returns-clause-same c = world_of-same (is_asked c.self.view_is c.self.invariant c.in_ok-place.ensures.place c.index_mut-asked.ensures.value) c.look.ensures.pool

pub returns-clause-room : goal.returns-clause-room
returns-clause-room c = λ asked_text memory. omega (arith, c.look.ensures.room asked_text memory, ap length (own_text-asked (is_asked c.self.view_is c.self.invariant c.in_ok-place.ensures.place c.index_mut-asked.ensures.value)))
