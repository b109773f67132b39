use Rattle.std.proofs.Common.{◌≡◌, ℕ, ◌+◌, ◌*◌, ◌^◌, ◌≤◌, refl, sym, ap, subst, ◌∙◌, arith}
use Rattle.mls_errorplane.proofs.Common.{AreRightIn, ChangesOnly, ErrorPlane, HasCaughtUp, HasStepped, IsDirtyList, Layout, StandsApart, Stepped, Steps, UnlessDone, area_of, checking_of, first_piece_of, flat_layout}
use Rattle.mls_stitch.proofs.PoolChanges.{ChangesOnly-refl, ChangesOnly-trans}
use Rattle.mls_errorplane.specs.declared.error_plane.Stepped.TheVariants.{Done, Full, Idle, Memory}
use Rattle.mls_errorplane.proofs.AreaSizes.{area_of-le}
use Rattle.mls_errorplane.proofs.StepsDone.{HasCaughtUp-ended, HasLayout-apart, area_of-Done, ended, few-Done, flat_layout-apart, no_piece}
use Rattle.mls_errorplane.proofs.StretchSteps.{Done-AreRight, Done-AreRightIn, Steps-stretch}
use Rattle.mls_errorplane.proofs.error_plane.ErrorPlane.catch_up.Goals as goal
use Rattle.mls_errorplane.proofs.error_plane.ErrorPlane.catch_up.Goals.{After-step}

pub step-requires-clause-layout : goal.step-requires-clause-layout
step-requires-clause-layout c =
    HasLayout-apart c.args.workspace.now.pool c.steps.workspace.pool c.args.self.now.owner c.steps.invariant.only c.args.planes.now
    c.args.context.now.uses.library.now c.requires.apart c.requires.layout

-- ---- after a step
module _ (c : After-step) where
  -- only tiles of the error plane have changed
  only : ChangesOnly c.args.workspace.now.pool c.step.new.workspace.pool c.args.self.now.owner
  only = ChangesOnly-trans c.steps.invariant.only (subst (ChangesOnly c.steps.workspace.pool c.step.new.workspace.pool) c.steps.invariant.owner c.step.ensures.only)

  abbrev layout : Layout
  layout = flat_layout c.args.workspace.now.pool c.args.context.now.uses c.args.planes.now

  -- so the layout shows what it did
  there : flat_layout c.step.new.workspace.pool c.args.context.now.uses c.args.planes.now ≡ layout
  there = flat_layout-apart c.args.workspace.now.pool c.step.new.workspace.pool c.args.self.now.owner only c.args.context.now.uses c.args.planes.now c.requires.apart

  -- and the step ended so in the layout as it was
  as_was :
      (how : Stepped)
      → HasStepped c.args.context.now.rules.now (flat_layout c.steps.workspace.pool c.args.context.now.uses c.args.planes.now) c.args.limit (checking_of c.steps.workspace.pool c.steps.self) how (checking_of c.step.new.workspace.pool c.step.new.self)
      → HasStepped c.args.context.now.rules.now layout c.args.limit (checking_of c.steps.workspace.pool c.steps.self) how (checking_of c.step.new.workspace.pool c.step.new.self)
  as_was how =
      subst (λ (l : Layout). HasStepped c.args.context.now.rules.now l c.args.limit (checking_of c.steps.workspace.pool c.steps.self) how (checking_of c.step.new.workspace.pool c.step.new.self))
      (flat_layout-apart c.args.workspace.now.pool c.steps.workspace.pool c.args.self.now.owner c.steps.invariant.only c.args.context.now.uses c.args.planes.now
      c.requires.apart)

  kept : IsDirtyList c.steps.self.dirty
  kept = subst (λ (e : ErrorPlane). IsDirtyList e.dirty) c.self.view_is c.in-Some.ensures.kept

  -- a step that was done leaves fewer squares
  few :
      HasStepped c.args.context.now.rules.now layout c.args.limit (checking_of c.steps.workspace.pool c.steps.self) Done (checking_of c.step.new.workspace.pool c.step.new.self)
      → c.steps.done + 1 + area_of c.step.new.self.dirty ≤ 65 * 2 ^ 42
  few =
      few-Done c.args.context.now.rules.now layout c.args.limit c.steps.done (checking_of c.steps.workspace.pool c.steps.self) (checking_of c.step.new.workspace.pool c.step.new.self)
      kept c.steps.invariant.few

  -- where it wasn't, catching up ends
  caught :
      (how : Stepped)
      → HasStepped c.args.context.now.rules.now (flat_layout c.steps.workspace.pool c.args.context.now.uses c.args.planes.now) c.args.limit (checking_of c.steps.workspace.pool c.steps.self) how (checking_of c.step.new.workspace.pool c.step.new.self)
      → UnlessDone how (HasCaughtUp c.args.context.now.rules.now layout c.args.limit (checking_of c.args.workspace.now.pool c.args.self.now) (ended c.steps.done how) (checking_of c.step.new.workspace.pool c.step.new.self))
  caught how step =
      HasCaughtUp-ended c.args.context.now.rules.now layout c.args.limit c.steps.done (checking_of c.args.workspace.now.pool c.args.self.now) (checking_of c.steps.workspace.pool c.steps.self)
      (checking_of c.step.new.workspace.pool c.step.new.self) c.steps.invariant.after how (as_was how step)

-- ---- and after the pieces that are settled then
pub settle-more-requires-clause-layout : goal.settle-more-requires-clause-layout
settle-more-requires-clause-layout c =
    HasLayout-apart c.args.workspace.now.pool c.step.new.workspace.pool c.args.self.now.owner (only (goal.at.settle-more-requires-clause-layout c).After-step)
    c.args.planes.now c.args.context.now.uses.library.now c.requires.apart c.requires.layout

pub settle-more-requires-clause-apart : goal.settle-more-requires-clause-apart
settle-more-requires-clause-apart c =
    subst (λ (owner : ℕ). StandsApart owner c.args.planes.now c.args.context.now.uses.library.now) (sym (c.step.ensures.owner ∙ c.steps.invariant.owner)) c.requires.apart

pub settle-more-requires-clause-right : goal.settle-more-requires-clause-right
settle-more-requires-clause-right c =
    let at = (goal.at.settle-more-requires-clause-right c).After-step in
    let rules = c.args.context.now.rules.now in
    let mid = checking_of c.steps.workspace.pool c.steps.self in
    let new = checking_of c.step.new.workspace.pool c.step.new.self in
    let step = as_was at Done c.in-Done.ensures.stepped in
    let first = c.in-Some.ensures.piece ∙ ap (λ (e : ErrorPlane). first_piece_of e.dirty) c.self.view_is in
    subst (λ (l : Layout). AreRightIn rules l new.marks c.after-now.result) (sym (there at))
    (c.after-now.ensures rules (layout at) new.marks (Done-AreRightIn rules (layout at) mid new c.steps.checked step.2 c.steps.invariant.right)
    (Done-AreRight rules (layout at) mid new c.in-Some.piece step.2 first))

pub overflow_add-done : goal.overflow_add-done
overflow_add-done c =
    let at = (goal.at.overflow_add-done c).After-step in
    omega (arith, few at (as_was at Done c.in-Done.ensures.stepped), c.settle-more.ensures.fewer)

pub overflow_add-done-in-Done : goal.overflow_add-done-in-Done
overflow_add-done-in-Done c =
    let at = (goal.at.overflow_add-done-in-Done c).After-step in
    omega (arith, few at (as_was at Done c.in-Done.ensures.stepped), c.settle-more.ensures.fewer)

pub steps-smaller : goal.steps-smaller
steps-smaller c =
    let at = (goal.at.steps-smaller c).After-step in
    let smaller = area_of-Done c.args.context.now.rules.now (layout at) c.args.limit (checking_of c.steps.workspace.pool c.steps.self) (checking_of c.step.new.workspace.pool c.step.new.self)
    (kept at) (as_was at Done c.in-Done.ensures.stepped) in
    omega (arith, smaller, c.settle-more.ensures.fewer)

pub steps-preserved : goal.steps-preserved
steps-preserved c =
    let at = (goal.at.steps-preserved c).After-step in
    let so_far = c.steps.invariant in
    let rules = c.args.context.now.rules.now in
    let mid = checking_of c.steps.workspace.pool c.steps.self in
    let new = checking_of c.step.new.workspace.pool c.step.new.self in
    let last = checking_of c.settle-more.new.workspace.pool c.settle-more.new.self in
    let more = c.settle-more.result in
    let step = as_was at Done c.in-Done.ensures.stepped in
    let owner = c.step.ensures.owner ∙ so_far.owner in
    record {
      after = Steps-stretch rules (layout at) c.args.limit c.steps.done more (checking_of c.args.workspace.now.pool c.args.self.now) mid new last so_far.after step
          (subst (λ (l : Layout). Steps rules l c.args.limit more new last) (there at) c.settle-more.ensures.steps);
      few = λ _. omega (arith, few at step, c.settle-more.ensures.fewer);
      right = subst (λ (l : Layout). AreRightIn rules l last.marks c.settle-more.new.checked) (there at) c.settle-more.ensures.right;
      marks = c.settle-more.ensures.marks;
      only = ChangesOnly-trans (only at) (subst (ChangesOnly c.step.new.workspace.pool c.settle-more.new.workspace.pool) owner c.settle-more.ensures.only);
      owner = c.settle-more.ensures.owner ∙ owner;
    }

-- ---- how it ends
pub returns-in-Idle-clause-caught_up : goal.returns-in-Idle-clause-caught_up
returns-in-Idle-clause-caught_up c = caught (goal.at.returns-in-Idle-clause-caught_up c).After-step Idle c.in-Idle.ensures.stepped

pub returns-in-Full-clause-caught_up : goal.returns-in-Full-clause-caught_up
returns-in-Full-clause-caught_up c = caught (goal.at.returns-in-Full-clause-caught_up c).After-step Full c.in-Full.ensures.stepped

pub returns-in-Memory-clause-caught_up : goal.returns-in-Memory-clause-caught_up
returns-in-Memory-clause-caught_up c = caught (goal.at.returns-in-Memory-clause-caught_up c).After-step Memory c.in-Memory.ensures.stepped

pub steps-init : goal.steps-init
steps-init c = record {
  after = refl;
  few = λ kept. omega (arith, area_of-le c.args.self.now.dirty kept);
  right = tt;
  marks = c.requires.marks.marks;
  only = ChangesOnly-refl c.args.workspace.now.pool c.args.self.now.owner;
  owner = refl;
}

pub returns-clause-caught_up : goal.returns-clause-caught_up
returns-clause-caught_up c = ((c.steps.done, c.steps.invariant.after), no_piece c.steps.self.dirty (ap (λ (e : ErrorPlane). first_piece_of e.dirty) (sym c.self.view_is) ∙ sym c.in_default.ensures.piece))
