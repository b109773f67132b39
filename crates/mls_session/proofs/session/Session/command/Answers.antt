use Rattle.std.proofs.Common.{inl, length, eqb-true, ap, sym, subst, ◌∙◌}
use Rattle.std.proofs.lemmas.Bool.{eqb-false}
use Rattle.mls_session.proofs.Common.{ChangesAmong, Design, HasRightMarks, IsCounted, IsDirtyList, Journal, config_of, designed_of, terms_of}
use Rattle.mls_session.specs.Sessions.{KeepsPlanes, Session, kept_of, owners_of}
use Rattle.mls_session.proofs.CellFrames.{home-ChangesAmong, layouts-ChangesAmong}
use Rattle.mls_session.proofs.CountedCommands.{Counts-fits, IsCounted-executed}
use Rattle.mls_session.proofs.JournalledCommands.{Commands-session, Does-full, after_command-limit, entries-full, seen}
use Rattle.mls_session.proofs.KeptPlanes.{StaysSound-refl}
use Rattle.mls_session.proofs.LegalJournals.{Commands-legal}
use Rattle.mls_session.proofs.RightMarks.{HasRightMarks-DesignSteps, IsCellLayout-at}
use Rattle.mls_session.proofs.session.Session.command.Goals as goal

pub returns-then-is_full-clause-step : goal.returns-then-is_full-clause-step
returns-then-is_full-clause-step c =
    let full = eqb-true (length c.self.inside.journal.entries) c.self.inside.journal.limit (sym c.if-is_full.ensures) in
    inl (Does-full (terms_of c.args.setup.now c.args.workspace.now.pool) (kept_of c.args.workspace.now.pool c.args.self.now) c.args.command
    (entries-full c.args.self.now c.self.inside.design c.self.inside.journal c.args.setup.now.limit c.self.view_is c.requires.ready.made_for.limit full))

pub returns-then-is_full-clause-sound : goal.returns-then-is_full-clause-sound
returns-then-is_full-clause-sound c = StaysSound-refl c.args.setup.now c.args.workspace.now.pool c.args.self.now c.requires.ready.home

pub keep-requires-clause-fits : goal.keep-requires-clause-fits
keep-requires-clause-fits c =
    let pool = c.args.workspace.now.pool in
    let design = c.self.inside.design in
    let done = c.command-executed.ensures in
    Counts-fits (config_of c.args.setup.now pool) (designed_of pool design) (designed_of c.command-executed.new.workspace.pool c.command-executed.new.self) c.self.inside.journal
    c.args.command c.command-executed.result c.self.invariant done.step done.counts

pub invariant_of-self : goal.invariant_of-self
invariant_of-self c =
    let pool = c.args.workspace.now.pool in
    let design = c.self.inside.design in
    let done = c.command-executed.ensures in
    subst (λ (j : Journal). IsCounted c.command-executed.new.self.errors.dirty j.checks) (sym c.keep.ensures)
    (IsCounted-executed (config_of c.args.setup.now pool) (designed_of pool design) (designed_of c.command-executed.new.workspace.pool c.command-executed.new.self) c.self.inside.journal
    c.args.command c.command-executed.result c.self.invariant done.step done.counts (subst (λ (d : Design). IsDirtyList d.errors.dirty) c.design.view_is c.areas.ensures.kept))

pub returns-clause-step : goal.returns-clause-step
returns-clause-step c =
    let new = c.command-executed.new in
    let room = eqb-false (length c.self.inside.journal.entries) c.self.inside.journal.limit (sym c.if-is_full.ensures) in
    Commands-session c.args.setup.now c.args.workspace.now.pool new.workspace.pool c.args.self.now c.self.inside.design new.self c.self.inside.journal c.keep.new.self c.args.command c.command-executed.result
    c.self.view_is c.requires.ready.made_for.limit room c.command-executed.ensures.step c.command-executed.ensures.counts c.keep.ensures

pub returns-clause-sound : goal.returns-clause-sound
returns-clause-sound c = record {
  legal =
      let new = c.command-executed.new in
      Commands-legal (terms_of c.args.setup.now c.args.workspace.now.pool) (kept_of c.args.workspace.now.pool c.args.self.now) (kept_of new.workspace.pool (seen new.self c.keep.new.self)) c.args.command c.command-executed.result.reply
      (returns-clause-step c);
  marks_right =
      let pool = c.args.workspace.now.pool in
      let setup = c.args.setup.now in
      let new = c.command-executed.new in
      let can = c.requires.ready.can_dump in
      let step = c.command-executed.ensures.step in
      let config = config_of setup pool in
      let right : HasRightMarks config (designed_of pool c.self.inside.design) → HasRightMarks config (designed_of new.workspace.pool new.self) =
      HasRightMarks-DesignSteps config (designed_of pool c.self.inside.design) (designed_of new.workspace.pool new.self) c.command-executed.result.reply c.args.command
      (λ cell layout is. IsCellLayout-at pool setup.library setup.tech.plane_count cell layout can.home can.planes is) step in
      subst (λ (s : Session). HasRightMarks config (designed_of pool s.design) → HasRightMarks config (designed_of new.workspace.pool new.self)) c.self.view_is right;
  planes =
      let new = c.command-executed.new in
      subst (λ (s : Session). KeepsPlanes c.args.workspace.now.pool new.workspace.pool s (seen new.self c.keep.new.self)) c.self.view_is (record {
        planes = c.command-executed.ensures.keeps;
        limit = ap (λ (j : Journal). j.limit) c.keep.ensures ∙ after_command-limit c.self.inside.journal c.args.command c.command-executed.result;
      });
}

pub returns-clause-cells_home : goal.returns-clause-cells_home
returns-clause-cells_home c =
    home-ChangesAmong c.args.workspace.now.pool c.command-executed.new.workspace.pool (owners_of c.args.self.now)
    (subst (λ (s : Session). ChangesAmong c.args.workspace.now.pool c.command-executed.new.workspace.pool (owners_of s)) c.self.view_is c.command-executed.ensures.keeps.only) c.args.setup.now c.requires.ready.can_dump

pub returns-clause-cells : goal.returns-clause-cells
returns-clause-cells c =
    layouts-ChangesAmong c.args.workspace.now.pool c.command-executed.new.workspace.pool (owners_of c.args.self.now)
    (subst (λ (s : Session). ChangesAmong c.args.workspace.now.pool c.command-executed.new.workspace.pool (owners_of s)) c.self.view_is c.command-executed.ensures.keeps.only) c.args.setup.now c.requires.ready.can_dump
