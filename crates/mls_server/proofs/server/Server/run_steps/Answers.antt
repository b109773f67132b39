use Rattle.std.proofs.Common.{None}
use Rattle.mls_session.specs.Journals.{StepsUpTo}
use Rattle.mls_server.proofs.AskedSessions.{AreOpen-changed, OnSeat-changed, callable, frame-changed, is_asked}
use Rattle.mls_server.proofs.server.Server.run_steps.Goals as goal

pub run_steps-requires : goal.run_steps-requires
run_steps-requires c = callable (is_asked c.self.view_is c.self.invariant c.in_ok-place.ensures.place c.index_mut-asked.ensures.value)

pub invariant_of-self : goal.invariant_of-self
invariant_of-self c = AreOpen-changed (is_asked c.self.view_is c.self.invariant c.in_ok-place.ensures.place c.index_mut-asked.ensures.value) c.run_steps.ensures.sound.planes None c.run_steps.ensures.sound tt

pub returns-clause-steps : goal.returns-clause-steps
returns-clause-steps c = OnSeat-changed (is_asked c.self.view_is c.self.invariant c.in_ok-place.ensures.place c.index_mut-asked.ensures.value) c.run_steps.ensures.sound.planes None (λ terms before run after. StepsUpTo terms c.args.most before run after) c.run_steps.result c.run_steps.ensures.stepped

pub returns-clause-frame : goal.returns-clause-frame
returns-clause-frame c = frame-changed (is_asked c.self.view_is c.self.invariant c.in_ok-place.ensures.place c.index_mut-asked.ensures.value) c.run_steps.ensures.sound.planes
