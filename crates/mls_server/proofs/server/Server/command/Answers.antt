use Rattle.std.proofs.Common.{Option, sym, subst}
use Rattle.mls_session.specs.mls_errorplane.declared.checked.Checked.{Checked}
use Rattle.mls_session.specs.Designs.{KnowsRight}
use Rattle.mls_session.specs.Journals.{Commands}
use Rattle.mls_session.specs.Sessions.{kept_of}
use Rattle.mls_session.specs.Setups.{terms_of}
use Rattle.mls_session.proofs.KnownMarks.{Commands-knows}
use Rattle.mls_server.proofs.AskedSessions.{AreOpen-changed, OnSeat-changed, callable, frame-changed, is_asked}
use Rattle.mls_server.proofs.server.Server.command.Goals as goal

pub command-requires : goal.command-requires
command-requires c = callable (is_asked c.self.view_is c.self.invariant c.in_ok-place.ensures.place c.index_mut-asked.ensures.value)

pub invariant_of-self : goal.invariant_of-self
invariant_of-self c =
    let is = is_asked c.self.view_is c.self.invariant c.in_ok-place.ensures.place c.index_mut-asked.ensures.value in
    let done = c.command.ensures in
    let before = c.index_mut-asked.result.now in
    let terms = terms_of c.self.inside.setup c.self.inside.workspace.pool in
    let after = kept_of c.command.new.workspace.pool c.command.new.self in
    let knows = Commands-knows terms (kept_of c.self.inside.workspace.pool before.session) after before.checked c.command.result is.made.knows_right c.args.command done.step in
    AreOpen-changed is done.sound.planes c.known_after-asked.result done.sound
    (subst (λ (checked : Option Checked). KnowsRight terms.config after.own.design checked) (sym c.known_after-asked.ensures) knows)

pub returns : goal.returns
returns c =
    let is = is_asked c.self.view_is c.self.invariant c.in_ok-place.ensures.place c.index_mut-asked.ensures.value in
    let done = c.command.ensures in
    record {
      does = OnSeat-changed is done.sound.planes c.known_after-asked.result (λ terms before reply after. Commands terms before c.args.command reply after) c.command.result done.step;
      frame = frame-changed is done.sound.planes;
    }
