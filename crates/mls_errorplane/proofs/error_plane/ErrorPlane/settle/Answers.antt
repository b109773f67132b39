use Rattle.std.proofs.Common.{refl, sym, subst, ◌∙◌, arith}
use Rattle.std.proofs.lemmas.Bool.Decides.{nat_tests}
use Rattle.mls_errorplane.proofs.Common.{AreRight, AreRightIn, AreSound, ChangesOnly, Layout, Steps, Trial, checking_of, flat_layout}
use Rattle.mls_stitch.proofs.PoolChanges.{ChangesOnly-refl, ChangesOnly-trans}
use Rattle.mls_errorplane.proofs.AreaSizes.{area_of-le}
use Rattle.mls_errorplane.proofs.StepsDone.{HasLayout-apart, flat_layout-apart}
use Rattle.mls_errorplane.proofs.StretchSteps.{Steps-then}
use Rattle.mls_errorplane.proofs.error_plane.ErrorPlane.settle.Goals as goal

pub drop_one_stretch-requires-clause-layout : goal.drop_one_stretch-requires-clause-layout
drop_one_stretch-requires-clause-layout c =
    HasLayout-apart c.args.workspace.now.pool c.stretches.workspace.pool c.args.self.now.owner c.stretches.invariant.only c.args.planes.now
    c.args.context.now.uses.library.now c.requires.apart c.requires.layout

pub drop_one_stretch-requires-clause-sound : goal.drop_one_stretch-requires-clause-sound
drop_one_stretch-requires-clause-sound c =
    let so_far = c.stretches.invariant in
    let uses = c.args.context.now.uses in
    let trial : Trial = record { checked = c.stretches.checked; most = c.stretches.most; limit = c.args.limit } in
    let here = flat_layout-apart c.args.workspace.now.pool c.stretches.workspace.pool c.args.self.now.owner so_far.only uses c.args.planes.now c.requires.apart in
    subst (λ (l : Layout). AreSound c.args.context.now.rules.now l trial (checking_of c.stretches.workspace.pool c.stretches.self).marks) (sym here)
    (record { fits = so_far.fits; right = so_far.right })

pub stretches-init : goal.stretches-init
stretches-init c = record {
  steps = refl;
  right = c.requires.right;
  fewer = omega arith;
  fits = grind (arith, nat_tests, c.tiles.ensures, c.if-tiles-limit.false);
  marks = c.requires.marks.marks;
  only = ChangesOnly-refl c.args.workspace.now.pool c.args.self.now.owner;
  owner = refl;
}

pub expected_alike-expected-requires : goal.expected_alike-expected-requires
expected_alike-expected-requires c =
    let so_far = c.stretches.invariant in
    let only = ChangesOnly-trans so_far.only (subst (ChangesOnly c.stretches.workspace.pool c.drop_one_stretch.new.workspace.pool) so_far.owner c.drop_one_stretch.ensures.only) in
    HasLayout-apart c.args.workspace.now.pool c.drop_one_stretch.new.workspace.pool c.args.self.now.owner only c.args.planes.now
    c.args.context.now.uses.library.now c.requires.apart c.requires.layout

pub overflow_add-steps : goal.overflow_add-steps
overflow_add-steps c = omega (arith, area_of-le c.args.self.now.dirty c.areas.ensures.kept, c.stretches.invariant.fewer, c.in-Some.ensures.fewer.1)

pub stretches-preserved : goal.stretches-preserved
stretches-preserved c =
    let so_far = c.stretches.invariant in
    let rules = c.args.context.now.rules.now in
    let uses = c.args.context.now.uses in
    let layout = flat_layout c.args.workspace.now.pool uses c.args.planes.now in
    let old = checking_of c.args.workspace.now.pool c.args.self.now in
    let mid = checking_of c.stretches.workspace.pool c.stretches.self in
    let new = checking_of c.drop_one_stretch.new.workspace.pool c.drop_one_stretch.new.self in
    let found = c.in-Some.ensures in
    let stretch = c.in-Some.stretch in
    let here = flat_layout-apart c.args.workspace.now.pool c.stretches.workspace.pool c.args.self.now.owner so_far.only uses c.args.planes.now c.requires.apart in
    rw c.expected_alike-expected.ensures
    (record {
      steps = Steps-then rules layout c.args.limit c.stretches.steps stretch.pieces old mid new so_far.steps
          (subst (λ (l : Layout). Steps rules l c.args.limit stretch.pieces mid new) here found.steps);
      right = c.then.ensures rules layout new.marks
          (subst (λ (l : Layout). AreRightIn rules l new.marks c.stretches.checked) here found.sound.right)
          (subst (λ (l : Layout). AreRight rules l new.marks stretch.rect) here found.right);
      fewer = omega (arith, so_far.fewer, found.fewer.1);
      fits = found.sound.fits;
      marks = found.marks;
      only = ChangesOnly-trans so_far.only (subst (ChangesOnly c.stretches.workspace.pool c.drop_one_stretch.new.workspace.pool) so_far.owner c.drop_one_stretch.ensures.only);
      owner = c.drop_one_stretch.ensures.owner ∙ so_far.owner;
    })
