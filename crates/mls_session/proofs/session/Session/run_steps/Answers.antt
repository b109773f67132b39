use Rattle.std.proofs.Common.{◌<◌, arith, subst}
use Rattle.mls_session.proofs.Common.{ChecksOnce, HasRightMarks, StepsOnce, Terms, kept_of, state_of, terms_of}
use Rattle.mls_session.proofs.KeptPlanes.{IsReady-kept, KeepsPlanes-refl, KeepsPlanes-trans, terms_of-kept}
use Rattle.mls_session.proofs.StepRuns.{ChecksTimes-last, ChecksTimes-legal, ChecksTimes-none, StepsUpTo-ended}
use Rattle.mls_session.proofs.session.Session.run_steps.Goals as goal

pub loop-done-init : goal.loop-done-init
loop-done-init c = record {
  times = ChecksTimes-none (terms_of c.args.setup.now c.args.workspace.now.pool) (kept_of c.args.workspace.now.pool c.args.self.now);
  right = λ right. right;
  keeps = KeepsPlanes-refl c.args.workspace.now.pool c.args.self.now c.requires.ready.home;
}

pub step-requires : goal.step-requires
step-requires c =
    let so_far = c.loop-done.invariant in
    let pool = c.args.workspace.now.pool in
    record { ready = IsReady-kept c.args.setup.now pool c.loop-done.workspace.pool c.args.self.now c.loop-done.self so_far.keeps c.requires.ready }

pub loop-done-preserved : goal.loop-done-preserved
loop-done-preserved c =
    let so_far = c.loop-done.invariant in
    let same = terms_of-kept c.args.setup.now c.args.workspace.now.pool c.loop-done.workspace.pool c.args.self.now c.loop-done.self so_far.keeps c.requires.ready.can_dump in
    let during = kept_of c.loop-done.workspace.pool c.loop-done.self in
    let after = kept_of c.step.new.workspace.pool c.step.new.self in
    record {
      times =
          ChecksTimes-last (terms_of c.args.setup.now c.args.workspace.now.pool) c.loop-done.done (kept_of c.args.workspace.now.pool c.args.self.now) during after so_far.times
          (subst (λ (terms : Terms). ChecksOnce terms during after) same c.in-Done.ensures.stepped);
      right = λ right.
          subst (λ (terms : Terms). HasRightMarks terms.config during.own.design → HasRightMarks terms.config after.own.design) same
          c.step.ensures.sound.marks_right (so_far.right right);
      keeps =
          KeepsPlanes-trans c.args.setup.now c.args.workspace.now.pool c.loop-done.workspace.pool c.step.new.workspace.pool c.args.self.now c.loop-done.self c.step.new.self
          so_far.keeps c.step.ensures.sound.planes;
    }

pub returns-in_default-clause-stepped : goal.returns-in_default-clause-stepped
returns-in_default-clause-stepped c =
    let so_far = c.loop-done.invariant in
    let same = terms_of-kept c.args.setup.now c.args.workspace.now.pool c.loop-done.workspace.pool c.args.self.now c.loop-done.self so_far.keeps c.requires.ready.can_dump in
    let less : c.loop-done.done < c.args.most = omega arith in
    let during = kept_of c.loop-done.workspace.pool c.loop-done.self in
    let after = kept_of c.step.new.workspace.pool c.step.new.self in
    StepsUpTo-ended (terms_of c.args.setup.now c.args.workspace.now.pool) c.args.most c.loop-done.done (kept_of c.args.workspace.now.pool c.args.self.now) during after c.step.result less
    so_far.times c.in_default.not-Done (subst (λ (terms : Terms). StepsOnce terms during c.step.result after) same c.step.ensures.stepped)

pub returns-in_default-clause-sound : goal.returns-in_default-clause-sound
returns-in_default-clause-sound c = record {
  legal =
      let run = returns-in_default-clause-stepped c in
      ChecksTimes-legal (terms_of c.args.setup.now c.args.workspace.now.pool) c.loop-done.done (kept_of c.args.workspace.now.pool c.args.self.now) (kept_of c.step.new.workspace.pool c.step.new.self)
      run.0;
  marks_right =
      let mid = c.loop-done.workspace.pool in
      let during = c.loop-done.self in
      let so_far = c.loop-done.invariant in
      let same = terms_of-kept c.args.setup.now c.args.workspace.now.pool mid c.args.self.now during so_far.keeps c.requires.ready.can_dump in
      λ right.
      subst (λ (terms : Terms). HasRightMarks terms.config (state_of mid during).design → HasRightMarks terms.config (state_of c.step.new.workspace.pool c.step.new.self).design) same
      c.step.ensures.sound.marks_right (so_far.right right);
  planes =
      KeepsPlanes-trans c.args.setup.now c.args.workspace.now.pool c.loop-done.workspace.pool c.step.new.workspace.pool c.args.self.now c.loop-done.self c.step.new.self
      c.loop-done.invariant.keeps c.step.ensures.sound.planes;
}

pub returns-clause-sound : goal.returns-clause-sound
returns-clause-sound c = record {
  legal =
      ChecksTimes-legal (terms_of c.args.setup.now c.args.workspace.now.pool) c.loop-done.done (kept_of c.args.workspace.now.pool c.args.self.now) (kept_of c.loop-done.workspace.pool c.loop-done.self)
      c.loop-done.invariant.times;
  marks_right = c.loop-done.invariant.right;
  planes = c.loop-done.invariant.keeps;
}
