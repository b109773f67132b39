use Rattle.std.proofs.Common.{◌≡◌, ℕ, false, List, refl, sym, ap, subst, ◌∙◌}
use Rattle.mls_errorplane.proofs.Common.{AreRight, AreSound, DropsAll, DropsIn, DropsKnown, EdgeRule, ErrorPlane, IsDirtyList, Layout, Pool, Rect, SquareSet, Steps, Stretch, flat_layout, is_marked, picture_in}
use Rattle.mls_errorplane.proofs.CarriedCounts.{IfSome-leads}
use Rattle.mls_errorplane.proofs.CheckedMarks.{checking_with}
use Rattle.mls_errorplane.proofs.DroppedRows.{DropsAll-DropsIn}
use Rattle.mls_errorplane.proofs.StretchSteps.{DropsIn-Steps, DropsIn-fewer, ShowsMarks-lent}
use Rattle.mls_errorplane.proofs.error_plane.ErrorPlane.drop_one_stretch.Goals as goal
use Rattle.mls_errorplane.proofs.error_plane.ErrorPlane.drop_one_stretch.Goals.{After-drop_known}

pub returns-then-make_right-clause-fewer : goal.returns-then-make_right-clause-fewer
returns-then-make_right-clause-fewer c =
    let stretch = c.in_ok-stretch.stretch in
    let old = c.args.self.now.dirty in
    let before : c.self.inside.dirty ≡ old = ap (λ (e : ErrorPlane). e.dirty) c.self.view_is in
    let after : c.self-2.inside.dirty ≡ old = cc (ap (λ (e : ErrorPlane). e.dirty) c.self-2.view_is, c.make_right.ensures.dirty) in
    let drops = subst (λ (list : List Rect). DropsAll stretch.rect stretch.pieces list c.drop_stretch.new.self) after c.drop_stretch.ensures in (
      c.in_ok-stretch.ensures.next.0,
      DropsIn-fewer stretch.rect stretch.pieces old c.drop_stretch.new.self (DropsAll-DropsIn stretch.rect stretch.pieces old c.drop_stretch.new.self drops)
          (subst IsDirtyList before c.in_ok-stretch.ensures.kept),
    )

pub returns-then-make_right-clause-steps : goal.returns-then-make_right-clause-steps
returns-then-make_right-clause-steps c =
    let stretch = c.in_ok-stretch.stretch in
    let pool = c.args.workspace.now.pool in
    let new = c.make_right.new.workspace.pool in
    let old = c.args.self.now.dirty in
    let after : c.self-2.inside.dirty ≡ old = cc (ap (λ (e : ErrorPlane). e.dirty) c.self-2.view_is, c.make_right.ensures.dirty) in
    let drops = subst (λ (list : List Rect). DropsAll stretch.rect stretch.pieces list c.drop_stretch.new.self) after c.drop_stretch.ensures in
    subst (λ (owner : ℕ). Steps c.args.context.now.rules.now (flat_layout pool c.args.context.now.uses c.args.planes.now) c.args.trial.now.limit stretch.pieces
    (checking_with (is_marked (picture_in pool c.args.self.now.owner)) old) (checking_with (is_marked (picture_in new owner)) c.drop_stretch.new.self))
    (sym (ap (λ (e : ErrorPlane). e.owner) c.self-2.view_is))
    (c.if-make_right.ensures.steps refl stretch.pieces old c.drop_stretch.new.self drops)

pub returns-then-make_right-clause-right : goal.returns-then-make_right-clause-right
returns-then-make_right-clause-right c =
    let layout = flat_layout c.args.workspace.now.pool c.args.context.now.uses c.args.planes.now in
    subst (λ (owner : ℕ). AreRight c.args.context.now.rules.now layout (is_marked (picture_in c.make_right.new.workspace.pool owner)) c.in_ok-stretch.stretch.rect)
    (sym (ap (λ (e : ErrorPlane). e.owner) c.self-2.view_is)) (c.if-make_right.ensures.right refl)

pub returns-then-make_right-clause-sound : goal.returns-then-make_right-clause-sound
returns-then-make_right-clause-sound c =
    let layout = flat_layout c.args.workspace.now.pool c.args.context.now.uses c.args.planes.now in
    subst (λ (owner : ℕ). AreSound c.args.context.now.rules.now layout c.args.trial.now (is_marked (picture_in c.make_right.new.workspace.pool owner)))
    (sym (ap (λ (e : ErrorPlane). e.owner) c.self-2.view_is)) c.make_right.ensures.sound

pub returns-then-make_right-clause-marks : goal.returns-then-make_right-clause-marks
returns-then-make_right-clause-marks c =
    let new = c.make_right.new.workspace.pool in
    ShowsMarks-lent new new c.make_right.new.self (record { owner = c.self-2.inside.plane; marked = c.self-2.inside.marked; dirty = c.drop_stretch.new.self }) refl
    (ap (λ (e : ErrorPlane). e.owner) c.self-2.view_is) (ap (λ (e : ErrorPlane). e.marked) c.self-2.view_is) c.make_right.ensures.marks

-- ---- where the first piece is known
module _ (c : After-drop_known) where
  abbrev rules : List EdgeRule
  rules = c.args.context.now.rules.now

  abbrev layout : Layout
  layout = flat_layout c.args.workspace.now.pool c.args.context.now.uses c.args.planes.now

  abbrev marks : SquareSet
  marks = is_marked (picture_in c.args.workspace.now.pool c.args.self.now.owner)

  abbrev old : List Rect
  old = c.args.self.now.dirty

  -- it is the next one
  drops : (stretch : Stretch) → DropsKnown c.args.trial.now.checked c.self-2.inside.dirty c.drop_known.new.self stretch
      → DropsIn stretch.rect stretch.pieces old c.drop_known.new.self
  drops stretch known =
      let after : c.self-2.inside.dirty ≡ old = cc (ap (λ (e : ErrorPlane). e.dirty) c.self-2.view_is, c.make_right.ensures.dirty) in
      DropsAll-DropsIn stretch.rect stretch.pieces old c.drop_known.new.self (subst (λ (list : List Rect). DropsAll stretch.rect stretch.pieces list c.drop_known.new.self) after known.drops)

  -- the marks are as they were
  same : c.make_right.result ≡ false → is_marked (picture_in c.make_right.new.workspace.pool c.self-2.inside.plane) ≡ marks
  same refused =
      let kept = c.make_right.ensures.refused refused in
      ap (λ (owner : ℕ). is_marked (picture_in c.make_right.new.workspace.pool owner)) (ap (λ (e : ErrorPlane). e.owner) c.self-2.view_is ∙ ap (λ (e : ErrorPlane). e.owner) kept.0)
      ∙ ap (λ (pool : Pool). is_marked (picture_in pool c.args.self.now.owner)) kept.1

pub returns-clause-fewer : goal.returns-clause-fewer
returns-clause-fewer c =
    let before : c.self.inside.dirty ≡ old c = ap (λ (e : ErrorPlane). e.dirty) c.self.view_is in
    IfSome-leads c.drop_known.result (λ stretch known. (
      known.some,
      DropsIn-fewer stretch.rect stretch.pieces (old c) c.drop_known.new.self (drops c stretch known) (subst IsDirtyList before c.in_ok-stretch.ensures.kept),
    )) c.drop_known.ensures.known

pub returns-clause-steps : goal.returns-clause-steps
returns-clause-steps c = IfSome-leads c.drop_known.result (λ stretch known.
    subst (λ (after : SquareSet). Steps (rules c) (layout c) c.args.trial.now.limit stretch.pieces (checking_with (marks c) (old c)) (checking_with after c.drop_known.new.self))
    (sym (same c c.if-make_right.false))
    (DropsIn-Steps (rules c) (layout c) c.args.trial.now.limit stretch.pieces stretch.rect (marks c) (old c) c.drop_known.new.self (drops c stretch known)
    (known.right (rules c) (layout c) (marks c) c.requires.sound.right) c.requires.sound.fits)) c.drop_known.ensures.known

pub returns-clause-right : goal.returns-clause-right
returns-clause-right c = IfSome-leads c.drop_known.result (λ stretch known.
    subst (λ (after : SquareSet). AreRight (rules c) (layout c) after stretch.rect) (sym (same c c.if-make_right.false))
    (known.right (rules c) (layout c) (marks c) c.requires.sound.right)) c.drop_known.ensures.known
