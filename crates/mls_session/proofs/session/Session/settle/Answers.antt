use Rattle.std.proofs.Common.{◌+◌, ap, subst, sym}
use Rattle.mls_session.proofs.Common.{IsCounted, Journal, KnowsRight, checking_of, config_of, designed_of, drawn_of, layout_of, terms_of}
use Rattle.mls_session.specs.Sessions.{KeepsPlanes, Session, kept_of}
use Rattle.mls_session.proofs.CountedSteps.{IsCounted-Steps, fits_of}
use Rattle.mls_session.proofs.JournalledCommands.{seen}
use Rattle.mls_session.proofs.JournalledSteps.{ChecksTimes-Steps, right_after}
use Rattle.mls_session.proofs.KeptPlanes.{StaysSound-refl}
use Rattle.mls_errorplane.proofs.StepsDone.{AfterSteps-IsChecked}
use Rattle.mls_session.proofs.StepRuns.{ChecksTimes-legal, ChecksTimes-none}
use Rattle.mls_session.proofs.session.Session.settle.Goals as goal

pub returns-in_default-clause-settled : goal.returns-in_default-clause-settled
returns-in_default-clause-settled c =
    ChecksTimes-none (terms_of c.args.setup.now c.args.workspace.now.pool) (kept_of c.args.workspace.now.pool c.args.self.now)

pub returns-in_default-clause-sound : goal.returns-in_default-clause-sound
returns-in_default-clause-sound c = StaysSound-refl c.args.setup.now c.args.workspace.now.pool c.args.self.now c.requires.ready.home

pub settle-steps-requires-clause-right : goal.settle-steps-requires-clause-right
settle-steps-requires-clause-right c =
    let pool = c.args.workspace.now.pool in
    let config = config_of c.args.setup.now pool in
    let known : KnowsRight config (designed_of pool c.self.inside.design) c.args.checked.now =
    subst (λ (s : Session). KnowsRight config (designed_of pool s.design) c.args.checked.now) (sym c.self.view_is) c.requires.knows in
    subst (KnowsRight config (designed_of pool c.self.inside.design)) c.in-Some.is known

pub count-requires : goal.count-requires
count-requires c =
    let pool = c.args.workspace.now.pool in
    let design = c.self.inside.design in
    let now = checking_of c.settle-steps.new.workspace.pool c.settle-steps.new.self.errors in
    let counted = IsCounted-Steps c.args.setup.now.rules (layout_of (config_of c.args.setup.now pool) (drawn_of pool design)) design.quota c.self.inside.journal.checks c.settle-steps.result
    (checking_of pool design.errors) now c.self.invariant c.settle-steps.ensures.steps in
    record { fits = fits_of now.dirty (c.self.inside.journal.checks + c.settle-steps.result) counted }

pub invariant_of-self : goal.invariant_of-self
invariant_of-self c =
    subst (λ (j : Journal). IsCounted c.settle-steps.new.self.errors.dirty j.checks) (sym c.count.ensures)
    (IsCounted-Steps c.args.setup.now.rules (layout_of (config_of c.args.setup.now c.args.workspace.now.pool) (drawn_of c.args.workspace.now.pool c.self.inside.design)) c.self.inside.design.quota c.self.inside.journal.checks c.settle-steps.result (checking_of c.args.workspace.now.pool c.self.inside.design.errors) (checking_of c.settle-steps.new.workspace.pool c.settle-steps.new.self.errors) c.self.invariant c.settle-steps.ensures.steps)

pub returns-clause-settled : goal.returns-clause-settled
returns-clause-settled c =
    ChecksTimes-Steps c.args.setup.now c.args.workspace.now.pool c.settle-steps.new.workspace.pool c.args.self.now c.self.inside.design c.settle-steps.new.self c.self.inside.journal c.count.new.self c.self.view_is c.settle-steps.ensures.keeps.drawn
    c.requires.ready.made_for c.settle-steps.result c.count.ensures c.settle-steps.ensures.steps

pub returns-clause-sound : goal.returns-clause-sound
returns-clause-sound c = record {
  legal =
      ChecksTimes-legal (terms_of c.args.setup.now c.args.workspace.now.pool) c.settle-steps.result (kept_of c.args.workspace.now.pool c.args.self.now) (kept_of c.settle-steps.new.workspace.pool (seen c.settle-steps.new.self c.count.new.self)) (returns-clause-settled c);
  marks_right =
      right_after c.args.setup.now c.args.workspace.now.pool c.settle-steps.new.workspace.pool c.args.self.now c.self.inside.design c.settle-steps.new.self c.self.inside.journal c.count.new.self c.self.view_is c.settle-steps.ensures.keeps.drawn
      (AfterSteps-IsChecked c.args.setup.now.rules (layout_of (config_of c.args.setup.now c.args.workspace.now.pool) (drawn_of c.args.workspace.now.pool c.self.inside.design)) c.self.inside.design.quota (checking_of c.args.workspace.now.pool c.self.inside.design.errors) (checking_of c.settle-steps.new.workspace.pool c.settle-steps.new.self.errors) (c.settle-steps.result, c.settle-steps.ensures.steps));
  planes =
      subst (λ (s : Session). KeepsPlanes c.args.workspace.now.pool c.settle-steps.new.workspace.pool s (seen c.settle-steps.new.self c.count.new.self)) c.self.view_is
      (record { planes = c.settle-steps.ensures.keeps.planes; limit = ap (λ (j : Journal). j.limit) c.count.ensures });
}
