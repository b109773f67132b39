use Rattle.std.proofs.Common.{◌≡◌, ◌+◌, ◌≤◌, ℕ, refl, sym, ap, subst, ◌∙◌, arith}
use Rattle.mls_errorplane.proofs.Common.{AreFew, ErrorPlane, HasStrips, Picture, SquareSet, is_marked, likened, marked_count, marks_picture, picture_in, remarked, tile_count, world}
use Rattle.mls_errorplane.proofs.CarriedCounts.{AreCarried-remarked, AreFew-carried}
use Rattle.mls_errorplane.proofs.CarriedMarks.{carried-few, carried-recount, remarked-shows}
use Rattle.mls_errorplane.proofs.PaintedPieces.{overlaid-part}
use Rattle.mls_errorplane.proofs.Recounts.{counted-as, recount-before, recount-few, recount-is}
use Rattle.mls_errorplane.proofs.error_plane.ErrorPlane.carry.Goals as goal
use Rattle.mls_errorplane.proofs.error_plane.ErrorPlane.carry.Goals.{In-Ok}

-- ---- once the plane is painted
module _ (c : In-Ok) where
  abbrev old : Picture
  old = picture_in c.args.workspace.now.pool c.self.inside.plane

  abbrev new : Picture
  new = picture_in c.repaint.new.pool c.self.inside.plane

  -- the set that the source tells
  abbrev set : SquareSet
  set = likened c.args.source.likeness c.args.source.rect (is_marked old)

  -- the rectangle is marked as it tells
  is : new ≡ remarked old c.args.rect set
  is = c.in-Ok.ensures.picture ∙ overlaid-part c.list_carried.new.pieces.items c.deref.result.now c.args.rect set old c.list_carried.ensures.painted c.deref.ensures.value

  -- over marks and nothing else
  shows : old ≡ marks_picture (is_marked old)
  shows =
      subst (λ (e : ErrorPlane). picture_in c.args.workspace.now.pool e.owner ≡ marks_picture (is_marked (picture_in c.args.workspace.now.pool e.owner)))
      (sym c.self.view_is) c.requires.marks.marks.marks

  -- of which as many squares were counted
  counted : c.self.inside.marked ≡ marked_count world old
  counted =
      counted-as c.args.workspace.now.pool c.args.workspace.now.pool c.args.self.now (record { owner = c.self.inside.plane; marked = c.self.inside.marked; dirty = c.self.inside.dirty })
      c.requires.marks.marks c.self.view_is refl

  few : c.in-Ok.recount.before ≤ marked_count world old
  few = carried-few old new c.args.rect set c.in-Ok.recount.before c.in-Ok.recount.after c.repaint.ensures.legal is c.in-Ok.ensures.before

  -- and as many are now as are said to be
  recounted : marked_count world new + c.in-Ok.recount.before ≡ marked_count world old + c.in-Ok.recount.after
  recounted =
      carried-recount old new c.args.rect set c.in-Ok.recount.before c.in-Ok.recount.after c.repaint.ensures.legal is c.in-Ok.ensures.before
      c.in-Ok.ensures.after

pub recounted-self-inside-requires-clause-before : goal.recounted-self-inside-requires-clause-before
recounted-self-inside-requires-clause-before c =
    let at = (goal.at.recounted-self-inside-requires-clause-before c).In-Ok in
    recount-before (old at) (new at) c.self.inside.marked c.in-Ok.recount.before c.in-Ok.recount.after (counted at) (few at)

pub recounted-self-inside-requires-clause-few : goal.recounted-self-inside-requires-clause-few
recounted-self-inside-requires-clause-few c =
    let at = (goal.at.recounted-self-inside-requires-clause-few c).In-Ok in
    recount-few (old at) (new at) c.self.inside.marked c.in-Ok.recount.before c.in-Ok.recount.after (counted at) (recounted at) (few at)

pub returns-clause-few : goal.returns-clause-few
returns-clause-few c = λ _.
    let at = (goal.at.returns-clause-few c).In-Ok in
    let likeness = c.args.source.likeness in
    let from = c.args.source.rect in
    let tiles = ap (λ (p : Picture). tile_count world p) (remarked-shows (old at) (new at) c.args.rect (set at) (shows at) (is at)) in
    let both = AreFew-carried c.args.limit likeness from c.args.rect (old at) (is_marked (new at)) c.in-Some.most c.repaint.ensures.legal (shows at) c.in-Some.ensures.room
    (AreCarried-remarked likeness from c.args.rect (old at) (new at) (is at)) (omega (arith, tiles, c.in-Ok.ensures.few)) in
    subst (λ (e : ErrorPlane). AreFew c.args.limit c.args.rect (is_marked (picture_in c.args.workspace.now.pool e.owner)) (is_marked (picture_in c.repaint.new.pool c.repaint.new.plane))) c.self.view_is
    (subst (λ (o : ℕ). AreFew c.args.limit c.args.rect (is_marked (old at)) (is_marked (picture_in c.repaint.new.pool o))) (sym c.repaint.ensures.plane) both)

pub returns-clause-marks : goal.returns-clause-marks
returns-clause-marks c =
    let at = (goal.at.returns-clause-marks c).In-Ok in
    let pool = c.repaint.new.pool in
    let marked = recount-is (old at) (new at) c.self.inside.marked c.in-Ok.recount.before c.in-Ok.recount.after c.recounted-self-inside.result (counted at) (recounted at) c.recounted-self-inside.ensures in
    record {
      strips = subst (λ (o : ℕ). HasStrips pool o) (sym c.repaint.ensures.plane) c.repaint.ensures.strips;
      marks = subst (λ (o : ℕ). picture_in pool o ≡ marks_picture (is_marked (picture_in pool o))) (sym c.repaint.ensures.plane) (remarked-shows (old at) (new at) c.args.rect (set at) (shows at) (is at));
      counted = subst (λ (o : ℕ). c.recounted-self-inside.result ≡ marked_count world (picture_in pool o)) (sym c.repaint.ensures.plane) marked;
    }
