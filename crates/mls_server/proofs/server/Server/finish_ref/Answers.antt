use Rattle.mls_session.specs.Journals.{Finishes}
use Rattle.mls_server.proofs.AskedSessions.{AreOpen-changed, OnSeat-changed, frame-changed, is_asked}
use Rattle.mls_server.proofs.server.Server.finish_ref.Goals as goal

pub finish-requires : goal.finish-requires
finish-requires c = let is = is_asked c.self.view_is c.self.invariant c.in_ok-place.ensures.place c.index_mut-asked.ensures.value in record { ready = is.made.ready; knows = is.made.knows_right }

pub invariant_of-self : goal.invariant_of-self
invariant_of-self c = AreOpen-changed (is_asked c.self.view_is c.self.invariant c.in_ok-place.ensures.place c.index_mut-asked.ensures.value) c.finish.ensures.sound.planes c.finish.new.checked c.finish.ensures.sound c.finish.ensures.knows

pub returns-clause-finishes : goal.returns-clause-finishes
returns-clause-finishes c = OnSeat-changed (is_asked c.self.view_is c.self.invariant c.in_ok-place.ensures.place c.index_mut-asked.ensures.value) c.finish.ensures.sound.planes c.finish.new.checked (λ terms before outcome after. Finishes terms before c.args.finding.now outcome after) c.finish.result c.finish.ensures.finished

pub returns-clause-frame : goal.returns-clause-frame
returns-clause-frame c = frame-changed (is_asked c.self.view_is c.self.invariant c.in_ok-place.ensures.place c.index_mut-asked.ensures.value) c.finish.ensures.sound.planes
