-- Marks that the error plane shows already are right; those that it doesn't show are carried.
use Rattle.std.proofs.Common.{◌≡◌, ℕ, true, inl, inr, refl, sym, ap, subst, ◌∙◌}
use Rattle.std.proofs.lemmas.Bool.{cases_Bool}
use Rattle.mls_errorplane.proofs.Common.{AreCarried, AreFew, AreRight, AreSound, ErrorPlane, Layout, Picture, Pool, Rect, ShowsAlike, SquareSet, Steps, flat_layout, is_marked, picture_in}
use Rattle.mls_layout.proofs.LentPlanes.{lent-same}
use Rattle.mls_errorplane.proofs.CarriedMarks.{AreRight-carried, AreRightIn-kept, fits-after}
use Rattle.mls_errorplane.proofs.CarriedSteps.{carried}
use Rattle.mls_errorplane.proofs.DroppedRows.{DropsAll-DropsIn}
use Rattle.mls_errorplane.proofs.CheckedMarks.{checking_with}
use Rattle.mls_errorplane.proofs.StretchSteps.{AreRight-alike, DropsIn-Steps}
use Rattle.mls_errorplane.proofs.error_plane.ErrorPlane.make_right.Goals as goal
use Rattle.mls_errorplane.proofs.error_plane.ErrorPlane.make_right.Goals.{After-shows_alike}

pub returns-then-encloses-clause-steps : goal.returns-then-encloses-clause-steps
returns-then-encloses-clause-steps c = λ _ count old new drops.
    let rules = c.args.context.now.rules.now in
    let layout = flat_layout c.args.workspace.now.pool c.args.context.now.uses c.args.planes.now in
    let marks = is_marked (picture_in c.args.workspace.now.pool c.args.self.now.owner) in
    DropsIn-Steps rules layout c.args.trial.now.limit count c.args.rect marks old new (DropsAll-DropsIn c.args.rect count old new drops)
    (c.if-encloses.ensures refl rules layout marks c.requires.sound.right) c.requires.sound.fits

pub returns-in_default-clause-sound : goal.returns-in_default-clause-sound
returns-in_default-clause-sound c =
    let rules = c.args.context.now.rules.now in
    let layout = flat_layout c.args.workspace.now.pool c.args.context.now.uses c.args.planes.now in
    subst (λ (p : Pool). AreSound rules layout c.args.trial.now (is_marked (picture_in p c.args.self.now.owner))) (sym c.alike_source.ensures.pool) c.requires.sound

-- ---- where pieces that were checked tell the marks
module _ (c : After-shows_alike) where
  abbrev layout : Layout
  layout = flat_layout c.args.workspace.now.pool c.args.context.now.uses c.args.planes.now

  abbrev old : SquareSet
  old = is_marked (picture_in c.args.workspace.now.pool c.args.self.now.owner)

  inside : c.self.inside.plane ≡ c.args.self.now.owner
  inside = ap (λ (e : ErrorPlane). e.owner) c.self.view_is

  -- the marks are as they were while they are searched
  same : is_marked (picture_in c.alike_source.new.workspace.pool c.args.self.now.owner) ≡ old
  same = ap (λ (p : Pool). is_marked (picture_in p c.args.self.now.owner)) c.alike_source.ensures.pool

  -- those of the source are right
  right_there : AreRight c.args.context.now.rules.now layout old c.in-Some.source.rect
  right_there = c.in-Some.ensures.right layout old c.requires.sound.right

  -- and so are those of the rectangle, where the error plane shows the same in both
  right_here : c.shows_alike.result ≡ true → AreRight c.args.context.now.rules.now layout old c.args.rect
  right_here shown =
      let source = c.in-Some.source in
      let picture = picture_in c.args.workspace.now.pool c.args.self.now.owner in
      let shows = subst (λ (e : Rect). ShowsAlike source.likeness 0 e picture) c.joined-both.ensures
      (subst (λ (p : Picture). ShowsAlike source.likeness 0 c.joined-both.result p)
      (lent-same picture_in c.args.workspace.now.pool c.alike_source.new.workspace.pool c.args.self.now.owner c.self.inside.plane c.alike_source.ensures.pool inside)
      (c.shows_alike.ensures.alike shown)) in
      AreRight-alike c.args.context.now.rules.now layout picture source.likeness source.rect c.args.rect c.lies_in_world-2.ensures c.lies_in_world.ensures c.in-Some.ensures.tells
      c.in-Some.ensures.alike shows right_there

  -- or where they are carried
  as_carried :
      (new : SquareSet) → AreCarried c.in-Some.source.likeness c.in-Some.source.rect c.args.rect (is_marked (picture_in c.alike_source.new.workspace.pool c.args.self.now.owner)) new
      → AreCarried c.in-Some.source.likeness c.in-Some.source.rect c.args.rect old new
  as_carried new = subst (λ (m : SquareSet). AreCarried c.in-Some.source.likeness c.in-Some.source.rect c.args.rect m new) same

  right_carried : (new : SquareSet) → AreCarried c.in-Some.source.likeness c.in-Some.source.rect c.args.rect old new → AreRight c.args.context.now.rules.now layout new c.args.rect
  right_carried new are =
      AreRight-carried c.args.context.now.rules.now layout c.in-Some.source.likeness c.in-Some.source.rect c.args.rect old new c.lies_in_world-2.ensures c.lies_in_world.ensures
      c.in-Some.ensures.tells c.in-Some.ensures.alike are right_there

pub returns-then-shows_alike-clause-right : goal.returns-then-shows_alike-clause-right
returns-then-shows_alike-clause-right c = λ _.
    let at = (goal.at.returns-then-shows_alike-clause-right c).After-shows_alike in
    subst (λ (m : SquareSet). AreRight c.args.context.now.rules.now (layout at) m c.args.rect) (sym (same at)) (right_here at c.if-shows_alike.true)

pub returns-then-shows_alike-clause-steps : goal.returns-then-shows_alike-clause-steps
returns-then-shows_alike-clause-steps c = λ _ count before after drops.
    let at = (goal.at.returns-then-shows_alike-clause-steps c).After-shows_alike in
    let rules = c.args.context.now.rules.now in
    subst (λ (m : SquareSet). Steps rules (layout at) c.args.trial.now.limit count (checking_with (old at) before) (checking_with m after)) (sym (same at))
    (DropsIn-Steps rules (layout at) c.args.trial.now.limit count c.args.rect (old at) before after (DropsAll-DropsIn c.args.rect count before after drops)
    (right_here at c.if-shows_alike.true) c.requires.sound.fits)

pub returns-then-shows_alike-clause-sound : goal.returns-then-shows_alike-clause-sound
returns-then-shows_alike-clause-sound c =
    let at = (goal.at.returns-then-shows_alike-clause-sound c).After-shows_alike in
    subst (AreSound c.args.context.now.rules.now (layout at) c.args.trial.now) (sym (same at)) c.requires.sound

pub returns-clause-right : goal.returns-clause-right
returns-clause-right c = λ yes.
    let at = (goal.at.returns-clause-right c).After-shows_alike in
    let new = is_marked (picture_in c.carry.new.workspace.pool c.carry.new.self.owner) in
    right_carried at new (as_carried at new (c.carry.ensures.carried yes))

pub returns-clause-steps : goal.returns-clause-steps
returns-clause-steps c = λ yes count before after drops.
    let at = (goal.at.returns-clause-steps c).After-shows_alike in
    let new = is_marked (picture_in c.carry.new.workspace.pool c.carry.new.self.owner) in
    let are = as_carried at new (c.carry.ensures.carried yes) in
    let few = subst (λ (m : SquareSet). AreFew c.args.trial.now.limit c.args.rect m new) (same at) (c.carry.ensures.few yes) in
    carried c.args.context.now.rules.now (layout at) c.args.trial.now.limit count c.args.rect (old at) new before after drops c.lies_in_world.ensures (right_carried at new are) are.elsewhere few

pub returns-clause-sound : goal.returns-clause-sound
returns-clause-sound c =
    let at = (goal.at.returns-clause-sound c).After-shows_alike in
    let rules = c.args.context.now.rules.now in
    let new = is_marked (picture_in c.carry.new.workspace.pool c.carry.new.self.owner) in
    elim (cases_Bool c.carry.result) [
      | inl is_carried ↦ (let are = as_carried at new (c.carry.ensures.carried is_carried) in record {
        fits = fits-after c.args.trial.now.limit c.args.rect (old at) new (subst (λ (m : SquareSet). AreFew c.args.trial.now.limit c.args.rect m new) (same at) (c.carry.ensures.few is_carried));
        right = AreRightIn-kept rules (layout at) (old at) new c.args.rect c.args.trial.now.checked (right_carried at new are) are.elsewhere c.requires.sound.right;
      })
      | inr stays ↦ (let kept = c.carry.ensures.refused stays in
          subst (AreSound rules (layout at) c.args.trial.now)
          (sym (same at) ∙ sym (lent-same (λ (p : Pool) (o : ℕ). is_marked (picture_in p o)) c.alike_source.new.workspace.pool c.carry.new.workspace.pool c.args.self.now.owner c.carry.new.self.owner kept.1 c.carry.ensures.owner))
          c.requires.sound)
    ]
