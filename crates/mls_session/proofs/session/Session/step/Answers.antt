use Rattle.std.proofs.Common.{◌≡◌, ap, ◌∙◌, subst, sym}
use Rattle.mls_session.proofs.Common.{IsCounted, Journal, after_steps, checking_of, config_of, done_steps, drawn_of, layout_of, terms_of}
use Rattle.mls_session.specs.Sessions.{KeepsPlanes, Session, kept_of}
use Rattle.mls_session.proofs.CountedSteps.{IsCounted-stepped}
use Rattle.mls_session.proofs.JournalledCommands.{seen}
use Rattle.mls_session.proofs.JournalledSteps.{StepsOnce-stepped, right_after}
use Rattle.mls_session.proofs.LegalJournals.{StepsOnce-legal}
use Rattle.mls_session.proofs.RightMarks.{HasStepped-IsChecked}
use Rattle.mls_session.proofs.session.Session.step.Goals as goal

journal : (c : goal.After-count) → c.count.new.self ≡ after_steps c.self.inside.journal (done_steps c.step-stepped.result)
journal c = c.count.ensures ∙ ap (after_steps c.self.inside.journal) c.done_steps.ensures

pub invariant_of-self : goal.invariant_of-self
invariant_of-self c =
    subst (λ (j : Journal). IsCounted c.step-stepped.new.self.errors.dirty j.checks) (sym (journal c))
    (IsCounted-stepped c.args.setup.now.rules (layout_of (config_of c.args.setup.now c.args.workspace.now.pool) (drawn_of c.args.workspace.now.pool c.self.inside.design)) c.self.inside.design.quota c.self.inside.journal.checks (checking_of c.args.workspace.now.pool c.self.inside.design.errors) (checking_of c.step-stepped.new.workspace.pool c.step-stepped.new.self.errors) c.step-stepped.result c.self.invariant c.step-stepped.ensures.stepped)

pub returns-clause-stepped : goal.returns-clause-stepped
returns-clause-stepped c =
    StepsOnce-stepped c.args.setup.now c.args.workspace.now.pool c.step-stepped.new.workspace.pool c.args.self.now c.self.inside.design c.step-stepped.new.self c.self.inside.journal c.count.new.self c.self.view_is c.step-stepped.ensures.keeps.drawn
    c.requires.ready.made_for c.step-stepped.result (journal c) c.step-stepped.ensures.stepped

pub returns-clause-sound : goal.returns-clause-sound
returns-clause-sound c = record {
  legal =
      StepsOnce-legal (terms_of c.args.setup.now c.args.workspace.now.pool) (kept_of c.args.workspace.now.pool c.args.self.now) (kept_of c.step-stepped.new.workspace.pool (seen c.step-stepped.new.self c.count.new.self)) c.step-stepped.result (returns-clause-stepped c);
  marks_right =
      right_after c.args.setup.now c.args.workspace.now.pool c.step-stepped.new.workspace.pool c.args.self.now c.self.inside.design c.step-stepped.new.self c.self.inside.journal c.count.new.self c.self.view_is c.step-stepped.ensures.keeps.drawn
      (HasStepped-IsChecked c.args.setup.now.rules (layout_of (config_of c.args.setup.now c.args.workspace.now.pool) (drawn_of c.args.workspace.now.pool c.self.inside.design)) c.self.inside.design.quota (checking_of c.args.workspace.now.pool c.self.inside.design.errors) (checking_of c.step-stepped.new.workspace.pool c.step-stepped.new.self.errors) c.step-stepped.result c.step-stepped.ensures.stepped);
  planes =
      subst (λ (s : Session). KeepsPlanes c.args.workspace.now.pool c.step-stepped.new.workspace.pool s (seen c.step-stepped.new.self c.count.new.self)) c.self.view_is
      (record { planes = c.step-stepped.ensures.keeps.planes; limit = ap (λ (j : Journal). j.limit) (journal c) });
}
