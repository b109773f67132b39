use Rattle.std.proofs.Common.{◌≡◌, ◌+◌, ◌<◌, ℕ, IsErr, Result, Ok, Err, refl, sym, ap, subst, ◌∙◌}
use Rattle.std.proofs.lemmas.Bool.{false≢true}
use Rattle.mls_errorplane.proofs.Common.{ErrorPlane, HasStepped, HasStrips, Picture, Pool, Stepped, checking_of, dropped, is_marked, marked_count, marks, marks_picture, picture_in, remarked, stepped_of, tile_count, world}
use Rattle.mls_errorplane.specs.declared.error_plane.Stepped.TheVariants.{Full}
use Rattle.mls_errorplane.proofs.CarriedMarks.{remarked-shows}
use Rattle.mls_errorplane.proofs.CheckedMarks.{HasStepped-Done, HasStepped-Full, checked-marks_picture}
use Rattle.mls_errorplane.proofs.Recounts.{counted-as, recount-before, recount-few, recount-is}
use Rattle.mls_errorplane.proofs.error_plane.ErrorPlane.mark_first.Goals as goal
use Rattle.mls_errorplane.proofs.error_plane.ErrorPlane.mark_first.Goals.{After-mark}

stepped_of-err : {T E : Type 0} (result : Result T E) → IsErr result → stepped_of result ≡ Full
stepped_of-err (Ok marked) err = absurd (false≢true err)
stepped_of-err (Err fault) err = refl

-- as many squares are marked as were counted
counted : (c : After-mark) → c.self.inside.marked ≡ marked_count world (picture_in c.args.workspace.now.pool c.self.inside.plane)
counted c =
    counted-as c.args.workspace.now.pool c.args.workspace.now.pool c.args.self.now (record { owner = c.self.inside.plane; marked = c.self.inside.marked; dirty = c.self.inside.dirty })
    c.requires.marks.marks c.self.view_is refl

-- the plane as its field has it, marked with the finding
named :
    (c : After-mark)
    → remarked (picture_in c.args.workspace.now.pool c.self.inside.plane) c.args.finding.now.piece (marks c.args.finding.now.marks)
    ≡ remarked (picture_in c.args.workspace.now.pool c.args.self.now.owner) c.args.finding.now.piece (marks c.args.finding.now.marks)
named c = ap (λ (e : ErrorPlane). remarked (picture_in c.args.workspace.now.pool e.owner) c.args.finding.now.piece (marks c.args.finding.now.marks)) c.self.view_is

pub recounted-self-inside-requires-clause-before : goal.recounted-self-inside-requires-clause-before
recounted-self-inside-requires-clause-before c =
    recount-before (picture_in c.args.workspace.now.pool c.self.inside.plane) (picture_in c.mark.new.pool c.self.inside.plane) c.self.inside.marked c.in_ok-recount.recount.before c.in_ok-recount.recount.after
    (counted (goal.at.recounted-self-inside-requires-clause-before c).After-mark) c.in_ok-recount.ensures.few

pub recounted-self-inside-requires-clause-few : goal.recounted-self-inside-requires-clause-few
recounted-self-inside-requires-clause-few c =
    recount-few (picture_in c.args.workspace.now.pool c.self.inside.plane) (picture_in c.mark.new.pool c.self.inside.plane) c.self.inside.marked c.in_ok-recount.recount.before c.in_ok-recount.recount.after
    (counted (goal.at.recounted-self-inside-requires-clause-few c).After-mark) c.in_ok-recount.ensures.recount c.in_ok-recount.ensures.few

pub returns-clause-stepped : goal.returns-clause-stepped
returns-clause-stepped c = λ rules layout first right.
    let finding = c.args.finding.now in
    let old = picture_in c.args.workspace.now.pool c.args.self.now.owner in
    let made = ap (picture_in c.mark.new.pool) c.mark.ensures.plane ∙ c.in_ok-recount.ensures.marks in
    let shown = checked-marks_picture rules layout c.args.self.now.dirty finding.piece finding.piece old (marks finding.marks) first refl right c.requires.marks.marks.marks in
    HasStepped-Done rules layout c.args.limit old (picture_in c.mark.new.pool c.mark.new.plane) c.args.self.now.dirty c.drop_piece.new.self finding.piece first
    (made ∙ named (goal.at.returns-clause-stepped c).After-mark ∙ shown)
    (λ more. false≢true (c.in_ok-recount.ensures.too_many.1 (subst (λ (p : Picture). c.args.limit < tile_count world p) made more)))
    (c.drop_piece.ensures ∙ ap (λ (e : ErrorPlane). dropped e.dirty) c.self.view_is)

pub returns-clause-marks : goal.returns-clause-marks
returns-clause-marks c =
    let finding = c.args.finding.now in
    let old = picture_in c.args.workspace.now.pool c.self.inside.plane in
    let new = picture_in c.mark.new.pool c.mark.new.plane in
    let shows = subst (λ (e : ErrorPlane). picture_in c.args.workspace.now.pool e.owner ≡ marks_picture (is_marked (picture_in c.args.workspace.now.pool e.owner))) (sym c.self.view_is) c.requires.marks.marks.marks in
    let recounted = subst (λ (owner : ℕ). marked_count world (picture_in c.mark.new.pool owner) + c.in_ok-recount.recount.before ≡ marked_count world old + c.in_ok-recount.recount.after)
    (sym c.mark.ensures.plane) c.in_ok-recount.ensures.recount in
    record {
      strips = subst (λ (owner : ℕ). HasStrips c.mark.new.pool owner) (sym c.mark.ensures.plane) c.mark.ensures.strips;
      marks = remarked-shows old new finding.piece (marks finding.marks) shows (ap (picture_in c.mark.new.pool) c.mark.ensures.plane ∙ c.in_ok-recount.ensures.marks);
      counted = recount-is old new c.self.inside.marked c.in_ok-recount.recount.before c.in_ok-recount.recount.after c.recounted-self-inside.result
          (counted (goal.at.returns-clause-marks c).After-mark) recounted c.recounted-self-inside.ensures;
    }

pub returns-in_err-recount-clause-stepped : goal.returns-in_err-recount-clause-stepped
returns-in_err-recount-clause-stepped c = λ rules layout first right.
    let pool = c.args.workspace.now.pool in
    let finding = c.args.finding.now in
    let old = picture_in pool c.args.self.now.owner in
    let left = λ (p : Pool) (owner : ℕ). checking_of p (record { owner = owner; marked = c.self.inside.marked; dirty = c.self.inside.dirty }) in
    let shown = checked-marks_picture rules layout c.args.self.now.dirty finding.piece finding.piece old (marks finding.marks) first refl right c.requires.marks.marks.marks in
    let same = ap (λ (p : Pool). left p c.mark.new.plane) c.in_err-recount.ensures.refused ∙ ap (left pool) c.mark.ensures.plane ∙ ap (checking_of pool) c.self.view_is in
    subst (λ (how : Stepped). HasStepped rules layout c.args.limit (checking_of pool c.args.self.now) how (left c.mark.new.pool c.mark.new.plane))
    (sym (stepped_of-err c.from_residual.result c.from_residual.ensures.0))
    (HasStepped-Full rules layout c.args.limit old (remarked (picture_in pool c.self.inside.plane) finding.piece (marks finding.marks)) c.args.self.now.dirty finding.piece
    (left c.mark.new.pool c.mark.new.plane) first (named (goal.at.returns-in_err-recount-clause-stepped c).After-mark ∙ shown) (c.in_err-recount.ensures.too_many.0 refl) same)
