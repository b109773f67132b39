use Rattle.std.proofs.Common.{◌≡◌, IfSome, length, ap, ◌∙◌, subst, sym}
use Rattle.mls_session.proofs.Common.{AreRightIn, Drawn, IsCounted, Journal, KnowsRight, after_steps, checking_of, config_of, designed_of, drawn_of, finished_steps, layout_of, terms_of}
use Rattle.mls_session.specs.Sessions.{KeepsPlanes, Session, kept_of}
use Rattle.mls_session.proofs.CountedSteps.{IsCounted-finished}
use Rattle.mls_session.proofs.JournalledCommands.{seen}
use Rattle.mls_session.proofs.JournalledSteps.{Finishes-finished, right_after}
use Rattle.mls_session.proofs.LegalJournals.{Finishes-legal}
use Rattle.mls_session.proofs.RightMarks.{HasFinished-IsChecked}
use Rattle.mls_session.proofs.session.Session.finish.Goals as goal

journal : (c : goal.After-after_finding) → c.count.new.self ≡ after_steps c.self.inside.journal (finished_steps c.finish-outcome.result)
journal c = c.count.ensures ∙ ap (after_steps c.self.inside.journal) c.finished_steps.ensures

pub invariant_of-self : goal.invariant_of-self
invariant_of-self c =
    subst (λ (j : Journal). IsCounted c.finish-outcome.new.self.errors.dirty j.checks) (sym (journal c))
    (IsCounted-finished c.args.setup.now.rules (length c.self.inside.design.planes) (layout_of (config_of c.args.setup.now c.args.workspace.now.pool) (drawn_of c.args.workspace.now.pool c.self.inside.design)) c.self.inside.design.quota c.self.inside.journal.checks (checking_of c.args.workspace.now.pool c.self.inside.design.errors) (checking_of c.finish-outcome.new.workspace.pool c.finish-outcome.new.self.errors) c.args.finding.now c.finish-outcome.result c.self.invariant c.finish-outcome.ensures.finished)

pub returns-clause-finished : goal.returns-clause-finished
returns-clause-finished c =
    Finishes-finished c.args.setup.now c.args.workspace.now.pool c.finish-outcome.new.workspace.pool c.args.self.now c.self.inside.design c.finish-outcome.new.self c.self.inside.journal c.count.new.self c.self.view_is c.finish-outcome.ensures.keeps.drawn
    c.requires.ready.made_for c.args.finding.now c.finish-outcome.result (journal c) c.finish-outcome.ensures.finished

pub returns-clause-sound : goal.returns-clause-sound
returns-clause-sound c = record {
  legal =
      Finishes-legal (terms_of c.args.setup.now c.args.workspace.now.pool) (kept_of c.args.workspace.now.pool c.args.self.now) (kept_of c.finish-outcome.new.workspace.pool (seen c.finish-outcome.new.self c.count.new.self)) c.args.finding.now c.finish-outcome.result (returns-clause-finished c);
  marks_right =
      right_after c.args.setup.now c.args.workspace.now.pool c.finish-outcome.new.workspace.pool c.args.self.now c.self.inside.design c.finish-outcome.new.self c.self.inside.journal c.count.new.self c.self.view_is c.finish-outcome.ensures.keeps.drawn
      (HasFinished-IsChecked c.args.setup.now.rules (length c.self.inside.design.planes) (layout_of (config_of c.args.setup.now c.args.workspace.now.pool) (drawn_of c.args.workspace.now.pool c.self.inside.design)) c.self.inside.design.quota (checking_of c.args.workspace.now.pool c.self.inside.design.errors) (checking_of c.finish-outcome.new.workspace.pool c.finish-outcome.new.self.errors) c.args.finding.now c.finish-outcome.result c.finish-outcome.ensures.finished);
  planes =
      subst (λ (s : Session). KeepsPlanes c.args.workspace.now.pool c.finish-outcome.new.workspace.pool s (seen c.finish-outcome.new.self c.count.new.self)) c.self.view_is
      (record { planes = c.finish-outcome.ensures.keeps.planes; limit = ap (λ (j : Journal). j.limit) (journal c) });
}

pub returns-clause-knows : goal.returns-clause-knows
returns-clause-knows c =
    let config = config_of c.args.setup.now c.args.workspace.now.pool in
    let known : KnowsRight config (designed_of c.args.workspace.now.pool c.self.inside.design) c.args.checked.now =
    subst (λ (s : Session). KnowsRight config (designed_of c.args.workspace.now.pool s.design) c.args.checked.now) (sym c.self.view_is) c.requires.knows in
    subst (λ (d : Drawn). IfSome c.after_finding.result (AreRightIn config.rules (layout_of config d) (checking_of c.finish-outcome.new.workspace.pool c.finish-outcome.new.self.errors).marks)) (sym c.finish-outcome.ensures.keeps.drawn)
    (c.after_finding.ensures config.rules (length c.self.inside.design.planes) (layout_of (config_of c.args.setup.now c.args.workspace.now.pool) (drawn_of c.args.workspace.now.pool c.self.inside.design)) c.self.inside.design.quota (checking_of c.args.workspace.now.pool c.self.inside.design.errors) (checking_of c.finish-outcome.new.workspace.pool c.finish-outcome.new.self.errors) c.finish-outcome.ensures.finished known)
