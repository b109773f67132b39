-- Check steps over a stretch whose marks change: where there are few enough tiles before and after together, each of them is done.
use Rattle.std.proofs.Common.{◌≡◌, ℕ, zero, suc, ◌+◌, ◌-◌, ◌≤◌, ◌<◌, ◌||◌, max, min, nat_lt, Bool, true, false, cond, if◌then◌else◌, inl, inr, List, [], ◌∷◌, Some, refl, sym, ap, subst, ◌∙◌, arith, le-ltb}
use Rattle.std.specs.Option.{IsSomeAnd}
use Rattle.std.proofs.Math.Path.{fun_ext}
use Rattle.std.proofs.lemmas.Bool.{both_ways, cases_Bool, cases_lt, false_from_ne_true}
use Rattle.std.proofs.lemmas.Bool.Decides.{nat_tests}
use Rattle.mls_errorplane.proofs.Common.{AreFew, AreRight, DropsAll, DropsTo, EdgeRule, GoUp, HasStepped, IsRectangleIn, Layout, Rect, SquareSet, Stair, Steps, Takes, checked_marks, dropped, exceeds, first_piece_of, forbidden, holds, in_stair, marks_picture, piece_of, piece_side, tile_count, world}
use Rattle.mls_geom.proofs.Holds.{between_holds, holds_between}
use Rattle.mls_errorplane.specs.declared.error_plane.Stepped.TheVariants as stepped
use Rattle.mls_errorplane.proofs.PaintedPieces.{holds_inside}
use Rattle.mls_errorplane.proofs.StairCorners.{IsAsBelow}
use Rattle.mls_errorplane.proofs.StairCounts.{stair, tile_count-stair}
use Rattle.mls_errorplane.proofs.CheckedMarks.{checking_with}
use Rattle.mls_errorplane.proofs.StretchSteps.{not_empty}

-- ---- stairs in the rows of a rectangle
-- the stair that has the squares of another one in a rectangle, with its band between the rectangle's bottom and top
abbrev kept_low : Rect → Stair → ℕ
kept_low rect at = max rect.bottom (min at.low rect.top)

abbrev kept : Rect → Stair → Stair
kept rect at = record { cut = at.cut; low = kept_low rect at; high = max (kept_low rect at) (min at.high rect.top) }

kept-few : (rect : Rect) (at : Stair) → at.high ≤ at.low + piece_side → (kept rect at).high ≤ kept_low rect at + piece_side
kept-few rect at few = omega (arith, few)

in_stair-kept : (rect : Rect) (at : Stair) (x y : ℕ) → rect.bottom ≤ y → y < rect.top → in_stair (kept rect at) x y ≡ in_stair at x y
in_stair-kept rect at x y from under = grind (arith, nat_tests)

-- ---- marks on the way
-- in the stair the one set, and elsewhere the other
abbrev on_the_way : Stair → SquareSet → SquareSet → SquareSet
on_the_way at marks after x y = if in_stair at x y then after x y else marks x y

picked : (b p q : Bool) → cond {A = ℕ} (cond b p q) 1 0 ≡ cond b (cond {A = ℕ} p 1 0) (cond {A = ℕ} q 1 0)
picked true p q = refl
picked false p q = refl

-- their picture has no more tiles than both pictures, that of the other set in the rows from the rectangle's bottom on, and two for each row in which a piece may differ from the row below
marks_picture-way : (at : Stair) (marks after : SquareSet) → marks_picture (on_the_way at marks after) ≡ stair at.cut at.low at.high (marks_picture after) (marks_picture marks)
marks_picture-way at marks after = fun_ext (λ x. fun_ext (λ y. picked (in_stair at x y) (after x y) (marks x y)))

IsAsBelow-GoUp : (rect : Rect) (marks : SquareSet) (y : ℕ) → GoUp rect marks → rect.bottom < y → y < rect.top → IsAsBelow world (marks_picture marks) y
IsAsBelow-GoUp rect marks y up over under x from to =
    let rows = record world { bottom = rect.bottom; top = rect.top } in
    ap (λ b. cond {A = ℕ} b 1 0)
    (up x y (between_holds rows x y from to (omega (arith, over)) under) ∙ sym (up x (y - 1) (between_holds rows x (y - 1) from to (omega (arith, over)) (omega (arith, under)))))

tile_count-way :
    (limit : ℕ) (rect : Rect) (at : Stair) (marks after : SquareSet) → IsRectangleIn world rect → at.high ≤ at.low + piece_side → AreFew limit rect marks after
    → nat_lt limit (tile_count world (marks_picture (on_the_way (kept rect at) marks after))) ≡ false
tile_count-way limit rect at marks after legal few fits =
    let way = kept rect at in
    let counts = ap (tile_count world) (marks_picture-way way marks after) in
    let most =
    tile_count-stair world (marks_picture after) (marks_picture marks) way.cut rect.bottom way.low way.high fits.rows legal.bottom_in (omega arith) (omega arith) fits.some
    (λ y above under. elim (cases_lt fits.rows piece_side) [
      | inl less ↦
          let over : rect.bottom < y = omega (arith, above, fits.some) in
          let below : y < rect.top = omega (arith, above, fits.some, under) in
          (IsAsBelow-GoUp rect after y (fits.go_up less).1 over below, IsAsBelow-GoUp rect marks y (fits.go_up less).0 over below)
      | inr all ↦ absurd (omega (arith, above, under, all, kept-few rect at few))
    ]) in
    le-ltb limit (tile_count world (marks_picture (on_the_way way marks after))) (omega (arith, counts, most, fits.few))

-- ---- steps
-- the marks of one square of the rectangle, after its piece or another one is checked
inside-checked : (here was now a m f : Bool) → now ≡ (was || here) → a ≡ f → cond here f (cond was a m) ≡ cond now a m
inside-checked true true now a m f is right = sym (ap (λ b. cond b a m) is ∙ right)
inside-checked true false now a m f is right = sym (ap (λ b. cond b a m) is ∙ right)
inside-checked false true now a m f is right = sym (ap (λ b. cond b a m) is)
inside-checked false false now a m f is right = sym (ap (λ b. cond b a m) is)

-- and of one outside it
either : (b a m : Bool) → a ≡ m → cond b a m ≡ m
either true a m same = same
either false a m same = refl

outside-checked : (here was now a m f : Bool) → here ≡ false → a ≡ m → cond here f (cond was a m) ≡ cond now a m
outside-checked here was now a m f elsewhere same = ap (λ b. cond b f (cond was a m)) elsewhere ∙ either was a m same ∙ sym (either now a m same)

module _
    (rules : List EdgeRule) (layout : Layout) (rect : Rect) (marks after : SquareSet) (right : AreRight rules layout after rect)
    (same : (x y : ℕ) → holds rect x y ≡ false → after x y ≡ marks x y) where
  -- a check of the next piece makes the marks on the way those of the next stair
  checked_marks-way : (before at : Stair) (piece : Rect) → Takes rect before at piece → checked_marks rules layout (Some piece) (on_the_way before marks after) ≡ on_the_way at marks after
  checked_marks-way before at piece takes = fun_ext (λ x. fun_ext (λ y. elim (cases_Bool (holds rect x y)) [
    | inl inside ↦
        inside-checked (holds piece x y) (in_stair before x y) (in_stair at x y) (after x y) (marks x y) (forbidden rules layout x y) (takes.squares x y inside) (right x y inside)
    | inr outside ↦
        outside-checked (holds piece x y) (in_stair before x y) (in_stair at x y) (after x y) (marks x y) (forbidden rules layout x y)
        (false_from_ne_true (holds piece x y) (λ here. both_ways (holds rect x y) outside (holds_inside rect piece x y takes.inside here)))
        (same x y outside)
  ]))

  -- they are those of the stair whose band is kept in the rectangle's rows
  way-kept : (at : Stair) → on_the_way (kept rect at) marks after ≡ on_the_way at marks after
  way-kept at = fun_ext (λ x. fun_ext (λ y. elim (cases_Bool (holds rect x y)) [
    | inl inside ↦ (let lines = holds_between rect x y inside in ap (λ b. cond b (after x y) (marks x y)) (in_stair-kept rect at x y lines.2 lines.3))
    | inr outside ↦ either (in_stair (kept rect at) x y) (after x y) (marks x y) (same x y outside) ∙ sym (either (in_stair at x y) (after x y) (marks x y) (same x y outside))
  ]))

  -- they begin with the one set, and end with the other
  way-none : (at : Stair) → ((x y : ℕ) → holds rect x y ≡ true → in_stair at x y ≡ false) → on_the_way at marks after ≡ marks
  way-none at none = fun_ext (λ x. fun_ext (λ y. elim (cases_Bool (holds rect x y)) [
    | inl inside ↦ ap (λ b. cond b (after x y) (marks x y)) (none x y inside)
    | inr outside ↦ either (in_stair at x y) (after x y) (marks x y) (same x y outside)
  ]))

  way-all : (at : Stair) → ((x y : ℕ) → holds rect x y ≡ true → in_stair at x y ≡ true) → on_the_way at marks after ≡ after
  way-all at all = fun_ext (λ x. fun_ext (λ y. elim (cases_Bool (holds rect x y)) [
    | inl inside ↦ ap (λ b. cond b (after x y) (marks x y)) (all x y inside)
    | inr outside ↦ either (in_stair at x y) (after x y) (marks x y) (same x y outside) ∙ sym (same x y outside)
  ]))

  module _ (limit : ℕ) (legal : IsRectangleIn world rect) (fits : AreFew limit rect marks after) where
    HasStepped-way :
        (before at : Stair) (mid new : List Rect) → IsSomeAnd (first_piece_of mid) (Takes rect before at) → new ≡ dropped mid
        → HasStepped rules layout limit (checking_with (on_the_way before marks after) mid) stepped.Done (checking_with (on_the_way at marks after) new)
    HasStepped-way before at [] new takes is = absurd takes
    HasStepped-way before at (first ∷ rest) new takes is =
        let checked = checked_marks-way before at (piece_of first) takes in (
          not_empty first rest,
          ap (exceeds limit) (checked ∙ sym (way-kept at)) ∙ tile_count-way limit rect at marks after legal takes.few fits,
          ap (checking_with (on_the_way at marks after)) is ∙ ap (λ (m : SquareSet). checking_with m (dropped (first ∷ rest))) (sym checked),
        )

    DropsTo-Steps :
        (at : Stair) (count : ℕ) (old new : List Rect) → DropsTo rect at count old new
        → Steps rules layout limit count (checking_with marks old) (checking_with (on_the_way at marks after) new)
    DropsTo-Steps at zero old new (is, none) = ap (checking_with (on_the_way at marks after)) is ∙ ap (λ (m : SquareSet). checking_with m old) (way-none at none)
    DropsTo-Steps at (suc count) old new (mid, before, drops, takes, is) =
        (checking_with (on_the_way before marks after) mid, DropsTo-Steps before count old mid drops, HasStepped-way before at mid new takes is)

-- where the marks before and after have few enough tiles together, check steps over the pieces of a rectangle lead from the ones to the others
pub carried :
    (rules : List EdgeRule) (layout : Layout) (limit count : ℕ) (rect : Rect) (marks after : SquareSet) (old new : List Rect) → DropsAll rect count old new
    → IsRectangleIn world rect → AreRight rules layout after rect → ((x y : ℕ) → holds rect x y ≡ false → after x y ≡ marks x y) → AreFew limit rect marks after
    → Steps rules layout limit count (record { marks = marks; dirty = old }) (record { marks = after; dirty = new })
carried rules layout limit count rect marks after old new (at, drops, all) legal right same fits =
    subst (λ (m : SquareSet). Steps rules layout limit count (checking_with marks old) (checking_with m new)) (way-all rules layout rect marks after right same at all)
    (DropsTo-Steps rules layout rect marks after right same limit legal fits at count old new drops)
