-- Numbers of squares in a rectangle of an extent.
use Rattle.std.proofs.Common.{◌≡◌, ℕ, ◌+◌, ◌-◌, ◌<◌, ◌≤◌, ◌==◌, Bool, ◌||◌, ◌&&◌, not, true, false, cond, refl, sym, ap, ◌∙◌, arith, sum_by}
use Rattle.std.specs.List.{range_with_len}
use Rattle.std.proofs.lemmas.Bool.{cond-false}
use Rattle.mls_errorplane.proofs.Common.{IsRectangleIn, Picture, Rect, SquareSet, columns, empty_picture, holds, is_marked, marked_count, remarked, square_count, world}
use Rattle.mls_geom.proofs.CornerCounts.{sum_by-between, sum_by-none}
use Rattle.mls_geom.proofs.Holds.{between_holds, holds_between}
use Rattle.mls_errorplane.proofs.RangeSums.{sum_by-agree}
use Rattle.mls_errorplane.proofs.SquareCounts.{bit, count_in, count_in-agree, count_in-apart, count_in-none}

-- a sum of terms that are 0 outside a part of the range is the sum over that part
sum_by-within :
    (f g : ℕ → ℕ) (low from to high : ℕ) → low ≤ from → from ≤ to → to ≤ high → ((z : ℕ) → from ≤ z → z < to → f z ≡ g z)
    → ((z : ℕ) → low ≤ z → z < from → f z ≡ 0) → ((z : ℕ) → to ≤ z → z < high → f z ≡ 0)
    → sum_by f (range_with_len low (high - low)) ≡ sum_by g (range_with_len from (to - from))
sum_by-within f g low from to high up over on inside before after =
    let first = sum_by-between f low from high up (omega (arith, over, on)) in
    let second = sum_by-between f from to high over on in
    let part = sum_by-agree f g from (to - from) (λ z above below. inside z above (omega (arith, over, below))) in
    omega (arith, first, second, part, sum_by-none f low from before, sum_by-none f to high after)

-- ---- the squares of a set in a rectangle
and_out : (a b : Bool) → (a ≡ true → ⊥) → bit (a && b) ≡ 0
and_out true b out = absurd (out refl)
and_out false b out = refl

and_in : (a b : Bool) → a ≡ true → bit (a && b) ≡ bit b
and_in true b here = refl
and_in false b here = absurd (cc)

-- are as many as in the rectangle alone
count_in-part : (e r : Rect) (set : ℕ → ℕ → Bool) → IsRectangleIn e r → count_in e (λ x y. holds r x y && set x y) ≡ count_in r set
count_in-part e r set legal =
    let row = λ (y : ℕ). sum_by (λ x. bit (holds r x y && set x y)) (columns e) in
    let part = λ (y : ℕ). sum_by (λ x. bit (set x y)) (columns r) in
    let inside : (y : ℕ) → r.bottom ≤ y → y < r.top → row y ≡ part y = λ y low high.
    sum_by-within (λ x. bit (holds r x y && set x y)) (λ x. bit (set x y)) e.left r.left r.right e.right legal.left_in (omega (arith, legal.wide)) legal.right_in
    (λ x from to. and_in (holds r x y) (set x y) (between_holds r x y from to low high))
    (λ x _ to. and_out (holds r x y) (set x y) (λ here. let lines = holds_between r x y here in absurd (omega (arith, to, lines.0))))
    (λ x from _. and_out (holds r x y) (set x y) (λ here. let lines = holds_between r x y here in absurd (omega (arith, from, lines.1)))) in
    sum_by-within row part e.bottom r.bottom r.top e.top legal.bottom_in (omega (arith, legal.tall)) legal.top_in inside
    (λ y _ to. sum_by-none (λ x. bit (holds r x y && set x y)) e.left e.right
    (λ x _ _. and_out (holds r x y) (set x y) (λ here. let lines = holds_between r x y here in absurd (omega (arith, to, lines.2)))))
    (λ y from _. sum_by-none (λ x. bit (holds r x y && set x y)) e.left e.right
    (λ x _ _. and_out (holds r x y) (set x y) (λ here. let lines = holds_between r x y here in absurd (omega (arith, from, lines.3)))))

-- ---- inside and outside
either_way : (a b : Bool) → b ≡ ((a && b) || (not a && b))
either_way true true = refl
either_way true false = refl
either_way false b = refl

not_both : (a b : Bool) → (a && b) ≡ true → (not a && b) ≡ false
not_both true b both = refl
not_both false b both = absurd (cc)

-- those in the rectangle, and those outside
count_in-split :
    (e r : Rect) (set : ℕ → ℕ → Bool) → IsRectangleIn e r → count_in e set ≡ count_in r set + count_in e (λ x y. not (holds r x y) && set x y)
count_in-split e r set legal =
    count_in-agree e set (λ x y. (holds r x y && set x y) || (not (holds r x y) && set x y)) (λ x y _. either_way (holds r x y) (set x y))
    ∙ count_in-apart e (λ x y. holds r x y && set x y) (λ x y. not (holds r x y) && set x y) (λ x y both. not_both (holds r x y) (set x y) both)
    ∙ ap (λ n. n + count_in e (λ x y. not (holds r x y) && set x y)) (count_in-part e r set legal)

outside_same : (here a b : Bool) → (here ≡ false → a ≡ b) → (not here && a) ≡ (not here && b)
outside_same true a b same = refl
outside_same false a b same = same refl

-- a rectangle has no more of them than the extent
pub marked_count-part : (e r : Rect) (picture : Picture) → IsRectangleIn e r → marked_count r picture ≤ marked_count e picture
unfolding marked_count
marked_count-part e r picture legal = omega (arith, count_in-split e r (is_marked picture) legal)

-- pictures that are one outside a rectangle differ by the marks in it
pub marked_count-changed :
    (e r : Rect) (old new : Picture) → IsRectangleIn e r → ((x y : ℕ) → holds r x y ≡ false → new x y ≡ old x y)
    → marked_count e new + marked_count r old ≡ marked_count e old + marked_count r new
unfolding marked_count
marked_count-changed e r old new legal same =
    let before = count_in-split e r (is_marked old) legal in
    let after = count_in-split e r (is_marked new) legal in
    let others : count_in e (λ x y. not (holds r x y) && is_marked new x y) ≡ count_in e (λ x y. not (holds r x y) && is_marked old x y) =
    count_in-agree e (λ x y. not (holds r x y) && is_marked new x y) (λ x y. not (holds r x y) && is_marked old x y)
    (λ x y _. outside_same (holds r x y) (is_marked new x y) (is_marked old x y) (λ out. ap (λ n. not (n == 0)) (same x y out))) in
    omega (arith, before, after, others)

-- the marked squares of a picture are counted as those of any set
marked_count-set : (rect : Rect) (picture : Picture) → marked_count rect picture ≡ square_count rect (is_marked picture)
unfolding marked_count square_count
marked_count-set rect picture = refl

square_count-agree : (rect : Rect) (a b : SquareSet) → ((x y : ℕ) → holds rect x y ≡ true → a x y ≡ b x y) → square_count rect a ≡ square_count rect b
unfolding square_count
square_count-agree rect a b same = count_in-agree rect a b same

-- a square of a rectangle that was marked anew is marked where the set has it
marked_at : (here set : Bool) (kind : ℕ) → here ≡ true → not (cond here (cond set 1 0) kind == 0) ≡ set
marked_at true true kind inside = refl
marked_at true false kind inside = refl
marked_at false set kind inside = absurd (cc)

-- so a rectangle that was marked anew has as many marked squares as the set has in it
pub marked_count-anew :
    (rect piece : Rect) (set : SquareSet) (old new : Picture) → rect ≡ piece → new ≡ remarked old piece set → marked_count rect new ≡ square_count rect set
marked_count-anew rect piece set old new of_piece marked =
    marked_count-set rect new
    ∙ square_count-agree rect (is_marked new) set (λ x y here.
    ap (λ (p : Picture). is_marked p x y) marked ∙ marked_at (holds piece x y) (set x y) (old x y) (sym (ap (λ (r : Rect). holds r x y) of_piece) ∙ here))

-- so once a rectangle of the world was marked anew
pub marked_count-remarked :
    (rect piece : Rect) (set : SquareSet) (old new : Picture) → IsRectangleIn world rect → rect ≡ piece → new ≡ remarked old piece set
    → marked_count world new + marked_count rect old ≡ marked_count world old + marked_count rect new
marked_count-remarked rect piece set old new legal of_piece marked =
    marked_count-changed world rect old new legal (λ x y out.
    ap (λ (p : Picture). p x y) marked ∙ cond-false (holds piece x y) (cond (set x y) 1 0) (old x y) (sym (ap (λ (r : Rect). holds r x y) of_piece) ∙ out))

-- nothing is marked where all is space
pub marked_count-space : (picture : Picture) → picture ≡ empty_picture → 0 ≡ marked_count world picture
unfolding marked_count
marked_count-space picture space = sym (ap (marked_count world) space ∙ count_in-none world)
