use Rattle.std.proofs.Common.{◌≡◌, ℕ, ◌<◌, ◌↔◌, IsErr, false, true, refl, sym, ap, subst, ◌∙◌, arith}
use Rattle.mls_errorplane.proofs.Common.{Marks, Picture, Rect, marked_count, marks, overlaid, picture_in, remarked, square_count, tile_count, world}
use Rattle.mls_errorplane.proofs.RectCounts.{marked_count-anew, marked_count-part, marked_count-remarked}
use Rattle.mls_errorplane.proofs.ShownBeside.{overlaid-found}
use Rattle.mls_errorplane.proofs.ShownMarks.{on_ok, remarked-found}
use Rattle.mls_errorplane.proofs.marks.mark.Goals as goal
use Rattle.mls_errorplane.proofs.marks.mark.Goals.{After-overlay, In_default}

-- ---- where the plane shows the marks already
shown_already :
    (c : In_default)
    → remarked (picture_in c.args.pool.now c.args.plane.now) c.args.finding.now.piece (marks c.args.finding.now.marks) ≡ picture_in c.args.pool.now c.args.plane.now
shown_already c =
    remarked-found c.args.pool.now c.args.plane.now c.marks-found.result.now c.args.finding.now c.rect-rect.result c.find_meeting.new.scratch.tiles c.tiles.result.now c.requires.strips.plane
    c.find_meeting.ensures.found c.rect-rect.ensures c.tiles.ensures (c.in_default.ensures.same refl) c.marks-found.ensures.value c.marks-found.ensures.exact.rect

pub returns-in_default-clause-marks : goal.returns-in_default-clause-marks
returns-in_default-clause-marks c = on_ok c.keep.result (sym (shown_already (goal.at.returns-in_default-clause-marks c).In_default))

pub returns-in_default-clause-too_many : goal.returns-in_default-clause-too_many
returns-in_default-clause-too_many c =
    subst (λ (picture : Picture). IsErr c.keep.result ↔ (c.args.limit < tile_count world picture))
    (sym (shown_already (goal.at.returns-in_default-clause-too_many c).In_default)) c.keep.ensures.too_many

-- ---- where pieces are painted
module _ (c : After-overlay) where
  abbrev below : Picture
  below = picture_in c.args.pool.now c.args.plane.now

  -- over the plane they mark the finding's piece
  whole : overlaid below c.deref.result.now ≡ remarked below c.args.finding.now.piece (marks c.args.finding.now.marks)
  whole =
      overlaid-found c.args.pool.now c.args.plane.now c.list_pieces.new.pieces.items c.deref.result.now c.in-Some.part c.rect-rect.result c.marks-found.result.now c.args.finding.now
      c.find_meeting.new.scratch.tiles c.tiles.result.now c.requires.strips.plane c.find_meeting.ensures.found c.rect-rect.ensures c.tiles.ensures c.in-Some.ensures.inside
      c.in-Some.ensures.beside c.list_pieces.ensures.painted c.deref.ensures.value c.marks-found.ensures.value c.marks-found.ensures.exact.rect

  -- whose squares are those of the marks' rectangle
  piece : c.rect-rect.result ≡ c.args.finding.now.piece
  piece = c.rect-rect.ensures ∙ ap (λ (m : Marks). m.rect) c.marks-found.ensures.value ∙ c.marks-found.ensures.exact.rect

pub returns-clause-marks : goal.returns-clause-marks
returns-clause-marks c =
    let at = (goal.at.returns-clause-marks c).After-overlay in
    c.in_ok-overlay.ensures.picture ∙ whole at

pub returns-clause-too_many : goal.returns-clause-too_many
returns-clause-too_many c =
    let at = (goal.at.returns-clause-too_many c).After-overlay in
    subst (λ (count : ℕ). (false ≡ true → c.args.limit < count) × (c.args.limit < count → false ≡ true)) (ap (tile_count world) (whole at)) c.in_ok-overlay.ensures.too_many

pub returns-in_err-overlay-clause-too_many : goal.returns-in_err-overlay-clause-too_many
returns-in_err-overlay-clause-too_many c =
    let at = (goal.at.returns-in_err-overlay-clause-too_many c).After-overlay in
    let more = subst (λ (count : ℕ). c.args.limit < count) (ap (tile_count world) (whole at)) (c.in_err-overlay.ensures.too_many.0 refl) in
    ((λ _. more), (λ _. c.from_residual.ensures.0))

pub returns-clause-recount : goal.returns-clause-recount
returns-clause-recount c =
    let at = (goal.at.returns-clause-recount c).After-overlay in
    let above = picture_in c.overlay.new.pool c.args.plane.now in
    let rect = c.rect-rect.result in
    let finding = c.args.finding.now in
    let marked = c.in_ok-overlay.ensures.picture ∙ whole at in
    let after : c.count-after.result ≡ marked_count rect above =
    c.count-after.ensures ∙ ap (λ (e : Rect). square_count e (marks c.marks-found.result.now)) (sym c.rect-rect.ensures)
    ∙ ap (λ (m : Marks). square_count rect (marks m)) c.marks-found.ensures.value
    ∙ sym (marked_count-anew rect finding.piece (marks finding.marks) (below at) above (piece at) marked) in
    let both = marked_count-remarked rect finding.piece (marks finding.marks) (below at) above c.count_shown-before.ensures.legal (piece at) marked in
    omega (arith, c.count_shown-before.ensures.value, after, both)

pub returns-clause-few : goal.returns-clause-few
returns-clause-few c =
    let at = (goal.at.returns-clause-few c).After-overlay in
    omega (arith, c.count_shown-before.ensures.value, marked_count-part world c.rect-rect.result (below at) c.count_shown-before.ensures.legal)
