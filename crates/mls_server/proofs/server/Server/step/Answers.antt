use Rattle.std.proofs.Common.{None}
use Rattle.mls_session.specs.Journals.{StepsOnce}
use Rattle.mls_server.proofs.AskedSessions.{AreOpen-changed, OnSeat-changed, callable, frame-changed, is_asked}
use Rattle.mls_server.proofs.server.Server.step.Goals as goal

pub step-requires : goal.step-requires
step-requires c = callable (is_asked c.self.view_is c.self.invariant c.in_ok-place.ensures.place c.index_mut-asked.ensures.value)

pub invariant_of-self : goal.invariant_of-self
invariant_of-self c = AreOpen-changed (is_asked c.self.view_is c.self.invariant c.in_ok-place.ensures.place c.index_mut-asked.ensures.value) c.step.ensures.sound.planes None c.step.ensures.sound tt

pub returns-clause-steps : goal.returns-clause-steps
returns-clause-steps c = OnSeat-changed (is_asked c.self.view_is c.self.invariant c.in_ok-place.ensures.place c.index_mut-asked.ensures.value) c.step.ensures.sound.planes None (λ terms before end after. StepsOnce terms before end after) c.step.result c.step.ensures.stepped

pub returns-clause-frame : goal.returns-clause-frame
returns-clause-frame c = frame-changed (is_asked c.self.view_is c.self.invariant c.in_ok-place.ensures.place c.index_mut-asked.ensures.value) c.step.ensures.sound.planes
