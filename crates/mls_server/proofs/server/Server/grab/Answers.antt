use Rattle.std.proofs.Common.{ℕ, sym, subst}
use Rattle.mls_session.specs.mls_errorplane.Jobs.{IsNextJob}
use Rattle.mls_session.specs.Own.{layout_of}
use Rattle.mls_session.specs.OwnSteps.{Terms}
use Rattle.mls_session.specs.Sessions.{kept_of}
use Rattle.mls_session.specs.Setups.{config_of}
use Rattle.mls_server.specs.Events.{DoesGrab}
use Rattle.mls_server.specs.Servers.{world_of}
use Rattle.mls_server.proofs.AskedSessions.{AreOpen-same, callable, is_asked, with_asked, world_of-same}
use Rattle.mls_server.proofs.server.Server.grab.Goals as goal
use Rattle.mls_server.proofs.server.Server.grab.Goals.{in-Ok-grab, in-Err}

pub grab-requires : goal.grab-requires
grab-requires c = callable (is_asked c.self.view_is c.self.invariant c.in-Ok.ensures.place c.index_mut-asked.ensures.value)

pub invariant_of-self : goal.invariant_of-self
invariant_of-self c = AreOpen-same (is_asked c.self.view_is c.self.invariant c.in-Ok.ensures.place c.index_mut-asked.ensures.value) c.grab.ensures.pool

pub returns-clause-grabs : goal.returns-clause-grabs
returns-clause-grabs c = elim c.match-grab.branch [
  | in-Ok-grab w ↦
      let is = is_asked c.self.view_is c.self.invariant c.in-Ok.ensures.place c.index_mut-asked.ensures.value in
      let own = c.self.inside in
      let kept = kept_of own.workspace.pool c.index_mut-asked.result.now.session in
      let next = subst (λ (count : ℕ). IsNextJob own.setup.rules count (layout_of (config_of own.setup own.workspace.pool) kept.own.design.drawn) kept.own.design.checking w.in-Ok-grab.job) is.made.ready.made_for.design.planes w.in-Ok-grab.ensures.grabbed in
      subst (λ result. DoesGrab (world_of c.args.self.now) c.args.id result (world_of (with_asked is c.grab.new.workspace.pool c.index_mut-asked.result.now.session))) (sym w.result-is) (
        kept,
        is.kept,
        subst (λ (terms : Terms). IsNextJob terms.config.rules terms.config.tech.plane_count (layout_of terms.config kept.own.design.drawn) kept.own.design.checking w.in-Ok-grab.job) is.terms next,
        world_of-same is c.grab.ensures.pool,
      )
  | in-Err w ↦
      let is = is_asked c.self.view_is c.self.invariant c.in-Ok.ensures.place c.index_mut-asked.ensures.value in
      let kept = kept_of c.self.inside.workspace.pool c.index_mut-asked.result.now.session in
      subst (λ result. DoesGrab (world_of c.args.self.now) c.args.id result (world_of (with_asked is c.grab.new.workspace.pool c.index_mut-asked.result.now.session))) (sym w.result-is)
      (kept, is.kept, w.in-Err.ensures.grabbed, world_of-same is c.grab.ensures.pool)
]
