use Rattle.mls_session.specs.Journals.{ChecksTimes}
use Rattle.mls_server.proofs.AskedSessions.{AreOpen-changed, OnSeat-changed, frame-changed, is_asked}
use Rattle.mls_server.proofs.server.Server.settle.Goals as goal

pub settle-requires : goal.settle-requires
settle-requires c = let is = is_asked c.self.view_is c.self.invariant c.in_ok-place.ensures.place c.index_mut-asked.ensures.value in record { ready = is.made.ready; knows = is.made.knows_right }

pub invariant_of-self : goal.invariant_of-self
invariant_of-self c = AreOpen-changed (is_asked c.self.view_is c.self.invariant c.in_ok-place.ensures.place c.index_mut-asked.ensures.value) c.settle.ensures.sound.planes c.settle.new.checked c.settle.ensures.sound c.settle.ensures.knows

pub returns-clause-settles : goal.returns-clause-settles
returns-clause-settles c = OnSeat-changed (is_asked c.self.view_is c.self.invariant c.in_ok-place.ensures.place c.index_mut-asked.ensures.value) c.settle.ensures.sound.planes c.settle.new.checked (λ terms before count after. ChecksTimes terms count before after) c.settle.result c.settle.ensures.settled

pub returns-clause-frame : goal.returns-clause-frame
returns-clause-frame c = frame-changed (is_asked c.self.view_is c.self.invariant c.in_ok-place.ensures.place c.index_mut-asked.ensures.value) c.settle.ensures.sound.planes
