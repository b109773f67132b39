-- Check steps over pieces whose marks are right already: they change the list alone.
use Rattle.std.proofs.Common.{◌≡◌, ◌≢◌, ℕ, zero, suc, ◌+◌, ◌<◌, ◌≤◌, not, ◌==◌, true, false, inl, inr, List, [], ◌∷◌, Option, None, Some, IfSome, sym, ap, subst, ◌∙◌, arith, add-suc, add-zero}
use Rattle.std.specs.Option.{IsSomeAnd}
use Rattle.std.proofs.Math.Path.{fun_ext}
use Rattle.std.proofs.lemmas.Bool.{cases_Bool, cond-false, cond-true}
use Rattle.mls_errorplane.proofs.Common.{AreRight, AreRightIn, Checked, Checking, DropsIn, EdgeRule, ErrorPlane, Finding, HasFinished, HasStepped, HasStrips, IsAlike, IsDirtyList, IsRectangleIn, Layout, Likeness, Outcome, Picture, Pool, Rect, ShowsAlike, ShowsMarks, SquareSet, Steps, Tells, area_of, check_step, checked_marks, dropped, exceeds, first_piece_of, forbidden, holds, is_marked, joined, like_column, like_row, marked_count, marks_picture, picture_in, piece_of, world}
use Rattle.mls_geom.proofs.JoinedRects.{holds-joined_one, holds-joined_other, joined-IsRectangleIn}
use Rattle.mls_layout.proofs.LentPlanes.{lent, lent-same}
use Rattle.mls_errorplane.specs.declared.error_plane.Stepped.TheVariants as stepped
use Rattle.mls_errorplane.specs.declared.error_plane.Outcome.TheVariants.{Finished, Full, Stale}
use Rattle.mls_errorplane.proofs.AlikeLayouts.{forbidden-alike}
use Rattle.mls_errorplane.proofs.AreaSizes.{area_of-dropped-less}
use Rattle.mls_errorplane.proofs.CheckedMarks.{checking_with}
use Rattle.mls_errorplane.proofs.KeptLists.{IsDirtyList-dropped}
use Rattle.mls_errorplane.proofs.PaintedPieces.{holds_inside}
use Rattle.mls_layout.proofs.LikeSquares.{alike-same, grown-holds, like_column-again, like_row-again}

-- ---- steps
pub Steps-then :
    (rules : List EdgeRule) (layout : Layout) (limit few more : ℕ) (old mid new : Checking) → Steps rules layout limit few old mid → Steps rules layout limit more mid new
    → Steps rules layout limit (few + more) old new
Steps-then rules layout limit few zero old mid new first same = rw add-zero (subst (Steps rules layout limit few old) (sym same) first)
Steps-then rules layout limit few (suc more) old mid new first (last, steps, step) =
    rw add-suc (last, Steps-then rules layout limit few more old mid last first steps, step)

-- marks that are right in a piece stay as they are when it is checked
checked_marks-right : (rules : List EdgeRule) (layout : Layout) (piece : Rect) (marks : SquareSet) → AreRight rules layout marks piece → checked_marks rules layout (Some piece) marks ≡ marks
checked_marks-right rules layout piece marks right = fun_ext (λ x. fun_ext (λ y. elim (cases_Bool (holds piece x y)) [
  | inl here ↦ cond-true (holds piece x y) (forbidden rules layout x y) (marks x y) here ∙ sym (right x y here)
  | inr elsewhere ↦ cond-false (holds piece x y) (forbidden rules layout x y) (marks x y) elsewhere
]))

-- and one that is right at a square is so after any piece is checked
checked_marks-keeps :
    (rules : List EdgeRule) (layout : Layout) (piece : Option Rect) (marks : SquareSet) (x y : ℕ) → marks x y ≡ forbidden rules layout x y
    → checked_marks rules layout piece marks x y ≡ forbidden rules layout x y
checked_marks-keeps rules layout None marks x y right = right
checked_marks-keeps rules layout (Some piece) marks x y right = elim (cases_Bool (holds piece x y)) [
  | inl here ↦ cond-true (holds piece x y) (forbidden rules layout x y) (marks x y) here
  | inr elsewhere ↦ cond-false (holds piece x y) (forbidden rules layout x y) (marks x y) elsewhere ∙ right
]

pub not_empty : (first : Rect) (rest : List Rect) → first ∷ rest ≢ []
not_empty first rest none = absurd (cc)

HasStepped-right :
    (rules : List EdgeRule) (layout : Layout) (limit : ℕ) (rect : Rect) (marks : SquareSet) (mid new : List Rect) → IsSomeAnd (first_piece_of mid) (IsRectangleIn rect)
    → new ≡ dropped mid → AreRight rules layout marks rect → exceeds limit marks ≡ false → HasStepped rules layout limit (checking_with marks mid) stepped.Done (checking_with marks new)
HasStepped-right rules layout limit rect marks [] new inside is right fits = absurd inside
HasStepped-right rules layout limit rect marks (first ∷ rest) new inside is right fits =
    let same = checked_marks-right rules layout (piece_of first) marks (λ x y here. right x y (holds_inside rect (piece_of first) x y inside here)) in (
      not_empty first rest,
      ap (exceeds limit) same ∙ fits,
      ap (checking_with marks) is ∙ ap (λ (m : SquareSet). checking_with m (dropped (first ∷ rest))) (sym same),
    )

-- where marks are right in a rectangle and few enough, check steps over pieces in it are done, and drop the pieces
pub DropsIn-Steps :
    (rules : List EdgeRule) (layout : Layout) (limit count : ℕ) (rect : Rect) (marks : SquareSet) (old new : List Rect) → DropsIn rect count old new
    → AreRight rules layout marks rect → exceeds limit marks ≡ false → Steps rules layout limit count (checking_with marks old) (checking_with marks new)
DropsIn-Steps rules layout limit zero rect marks old new same right fits = ap (checking_with marks) same
DropsIn-Steps rules layout limit (suc count) rect marks old new (mid, drops, inside, is) right fits = (
  checking_with marks mid,
  DropsIn-Steps rules layout limit count rect marks old mid drops right fits,
  HasStepped-right rules layout limit rect marks mid new inside is right fits,
)

-- a step that is done leaves marks that are right in its piece
pub Done-AreRight :
    (rules : List EdgeRule) (layout : Layout) (old new : Checking) (piece : Rect) → new ≡ check_step rules layout old → Some piece ≡ first_piece_of old.dirty
    → AreRight rules layout new.marks piece
Done-AreRight rules layout old new piece is first x y here =
    ap (λ (checking : Checking). checking.marks x y) is ∙ ap (λ (at : Option Rect). checked_marks rules layout at old.marks x y) (sym first)
    ∙ cond-true (holds piece x y) (forbidden rules layout x y) (old.marks x y) here

-- steps so far, one more, and those of a stretch
pub Steps-stretch :
    (rules : List EdgeRule) (layout : Layout) (limit count more : ℕ) (old mid new last : Checking) → Steps rules layout limit count old mid
    → HasStepped rules layout limit mid stepped.Done new → Steps rules layout limit more new last
    → Steps rules layout limit (count + (1 + more)) old last
Steps-stretch rules layout limit count more old mid new last steps step later =
    let counts : suc count + more ≡ count + (1 + more) = omega arith in
    subst (λ n. Steps rules layout limit n old last) counts
    (Steps-then rules layout limit (suc count) more old new last (mid, steps, step) later)

-- ---- lists
pub DropsIn-kept : (rect : Rect) (count : ℕ) (old new : List Rect) → DropsIn rect count old new → IsDirtyList old → IsDirtyList new
DropsIn-kept rect zero old new same kept = subst IsDirtyList (sym same) kept
DropsIn-kept rect (suc count) old new (mid, drops, inside, is) kept = subst IsDirtyList (sym is) (IsDirtyList-dropped mid (DropsIn-kept rect count old mid drops kept))

dropped-fewer : (rect : Rect) (mid : List Rect) → IsSomeAnd (first_piece_of mid) (IsRectangleIn rect) → IsDirtyList mid → area_of (dropped mid) < area_of mid
dropped-fewer rect [] inside kept = absurd inside
dropped-fewer rect (first ∷ rest) inside kept = area_of-dropped-less first rest (kept.legal 0 first (omega arith))

-- each piece has a square
pub DropsIn-fewer : (rect : Rect) (count : ℕ) (old new : List Rect) → DropsIn rect count old new → IsDirtyList old → count + area_of new ≤ area_of old
DropsIn-fewer rect zero old new same kept = let sizes = ap area_of same in omega (arith, sizes)
DropsIn-fewer rect (suc count) old new (mid, drops, inside, is) kept =
    let sizes = ap area_of is in
    let one = dropped-fewer rect mid inside (DropsIn-kept rect count old mid drops kept) in
    omega (arith, sizes, one, DropsIn-fewer rect count old mid drops kept)

-- ---- marks
-- where layout and marks show the same in two squares, marks that are right at one are right at the other
right-alike :
    (rules : List EdgeRule) (layout : Layout) (picture : Picture) (likeness : Likeness) (rect : Rect) (x y a b : ℕ) → IsRectangleIn world rect
    → IsAlike likeness rules layout rect → ShowsAlike likeness 0 rect picture → like_column likeness rect x ≡ like_column likeness rect a
    → like_row likeness rect y ≡ like_row likeness rect b → holds rect x y ≡ true → holds rect a b ≡ true
    → is_marked picture a b ≡ forbidden rules layout a b → is_marked picture x y ≡ forbidden rules layout x y
right-alike rules layout picture likeness rect x y a b legal alike marks column row here there right =
    ap (λ kind. not (kind == 0)) (alike-same likeness 0 rect picture x y a b marks column row (grown-holds 0 rect x y here) (grown-holds 0 rect a b there)) ∙ right
    ∙ sym (forbidden-alike rules layout likeness rect x y a b alike column row here there (holds_inside world rect x y legal here) (holds_inside world rect a b legal there))

-- so marks that are right in one rectangle are right in another, if it has the squares that show what those of the other show, and the likeness is round both together
pub AreRight-alike :
    (rules : List EdgeRule) (layout : Layout) (picture : Picture) (likeness : Likeness) (from rect : Rect) → IsRectangleIn world from → IsRectangleIn world rect
    → Tells likeness from rect → IsAlike likeness rules layout (joined from rect) → ShowsAlike likeness 0 (joined from rect) picture
    → AreRight rules layout (is_marked picture) from → AreRight rules layout (is_marked picture) rect
AreRight-alike rules layout picture likeness from rect legal legal' tells alike marks right x y here =
    let column = like_column likeness from x in
    let row = like_row likeness from y in
    let both = joined from rect in
    right-alike rules layout picture likeness both x y column row (joined-IsRectangleIn world from rect legal legal') alike marks
    (sym (like_column-again likeness both from x)) (sym (like_row-again likeness both from y))
    (holds-joined_other from rect x y here) (holds-joined_one from rect column row (tells x y here)) (right column row (tells x y here))

-- marks that are right in some pieces stay so in a step that is done, and in its piece they are
Done-keeps :
    (rules : List EdgeRule) (layout : Layout) (old new : Checking) (rect : Rect) → new ≡ check_step rules layout old → AreRight rules layout old.marks rect
    → AreRight rules layout new.marks rect
Done-keeps rules layout old new rect is right x y here =
    ap (λ (checking : Checking). checking.marks x y) is ∙ checked_marks-keeps rules layout (first_piece_of old.dirty) old.marks x y (right x y here)

pub Done-AreRightIn :
    (rules : List EdgeRule) (layout : Layout) (old new : Checking) (checked : Option Checked) → new ≡ check_step rules layout old
    → IfSome checked (AreRightIn rules layout old.marks) → IfSome checked (AreRightIn rules layout new.marks)
Done-AreRightIn rules layout old new None is right = right
Done-AreRightIn rules layout old new (Some checked) is right = (
  Done-keeps rules layout old new checked.last is right.0,
  Done-keeps rules layout old new checked.row is right.1,
  Done-keeps rules layout old new checked.block is right.2,
  Done-keeps rules layout old new checked.largest is right.3,
)

-- and so it is after a finding that was finished
pub Finished-AreRightIn :
    (rules : List EdgeRule) (planes : ℕ) (layout : Layout) (limit : ℕ) (old new : Checking) (finding : Finding) (outcome : Outcome) (checked : Option Checked) (after : Checked)
    → HasFinished rules planes layout limit old finding outcome new → outcome ≡ Finished → IfSome checked (AreRightIn rules layout old.marks)
    → (IfSome checked (AreRightIn rules layout new.marks) → AreRight rules layout new.marks finding.piece → AreRightIn rules layout new.marks after)
    → AreRightIn rules layout new.marks after
Finished-AreRightIn rules planes layout limit old new finding Finished checked after (fresh, fits, is) here right then =
    then (Done-AreRightIn rules layout old new checked is right) (Done-AreRight rules layout old new finding.piece is (sym fresh.piece))
Finished-AreRightIn rules planes layout limit old new finding Stale checked after same other right then = absurd (cc other)
Finished-AreRightIn rules planes layout limit old new finding Full checked after same other right then = absurd (cc other)

-- ---- a plane
-- a plane of marks whose pool, owner and count are as they were
pub ShowsMarks-lent :
    (pool now : Pool) (errors given : ErrorPlane) → now ≡ pool → given.owner ≡ errors.owner → given.marked ≡ errors.marked → ShowsMarks pool errors → ShowsMarks now given
ShowsMarks-lent pool now errors given same_pool same_owner same_count shows = record {
  strips = lent HasStrips pool now errors.owner given.owner same_pool same_owner shows.strips;
  marks = lent (λ (p : Pool) (o : ℕ). picture_in p o ≡ marks_picture (is_marked (picture_in p o))) pool now errors.owner given.owner same_pool same_owner shows.marks;
  counted = same_count ∙ shows.counted ∙ sym (lent-same (λ (p : Pool) (o : ℕ). marked_count world (picture_in p o)) pool now errors.owner given.owner same_pool same_owner);
}
