-- Numbers of squares of sets in an extent.
use Rattle.std.proofs.Common.{◌≡◌, ℕ, ◌+◌, ◌-◌, ◌*◌, ◌<◌, ◌≤◌, Bool, ◌||◌, true, false, cond, refl, ap, arith, sum_by}
use Rattle.std.proofs.lemmas.Bool.{false_from_ne_true}
use Rattle.mls_errorplane.specs.Common.{IsRectangleIn, Rect, columns, holds, rows, size_of}
use Rattle.mls_geom.proofs.CornerCounts.{sum_by-none}
use Rattle.mls_geom.proofs.Holds.{between_holds, holds_between}
use Rattle.mls_errorplane.proofs.RangeSums.{sum_by-agree, sum_by-part, sum_by-plus}

-- 1 for a square of the set, and 0 for another
abbrev pub bit : Bool → ℕ
bit b = cond b 1 0

-- how many squares of the extent are in the set
abbrev pub count_in : Rect → (ℕ → ℕ → Bool) → ℕ
count_in extent set = sum_by (λ y. sum_by (λ x. bit (set x y)) (columns extent)) (rows extent)

-- sets with the same squares have as many
pub count_in-agree :
    (extent : Rect) (a b : ℕ → ℕ → Bool) → ((x y : ℕ) → holds extent x y ≡ true → a x y ≡ b x y) → count_in extent a ≡ count_in extent b
count_in-agree e a b same =
    sum_by-agree (λ y. sum_by (λ x. bit (a x y)) (columns e)) (λ y. sum_by (λ x. bit (b x y)) (columns e)) e.bottom (e.top - e.bottom)
    (λ y low high. sum_by-agree (λ x. bit (a x y)) (λ x. bit (b x y)) e.left (e.right - e.left)
    (λ x from to. ap bit (same x y (between_holds e x y from (omega (arith, from, to)) low (omega (arith, low, high))))))

-- one of two, where not both are
bit-apart : (a b : Bool) → (a ≡ true → b ≡ false) → bit (a || b) ≡ bit a + bit b
bit-apart true b apart = let other = apart refl in rw other refl
bit-apart false true apart = refl
bit-apart false false apart = refl

-- two sets that share no square have as many as each
pub count_in-apart :
    (extent : Rect) (a b : ℕ → ℕ → Bool) → ((x y : ℕ) → a x y ≡ true → b x y ≡ false)
    → count_in extent (λ x y. a x y || b x y) ≡ count_in extent a + count_in extent b
count_in-apart e a b apart =
    sum_by-plus (λ y. sum_by (λ x. bit (a x y)) (columns e)) (λ y. sum_by (λ x. bit (b x y)) (columns e)) (λ y. sum_by (λ x. bit (a x y || b x y)) (columns e)) e.bottom (e.top - e.bottom)
    (λ y _ _. sum_by-plus (λ x. bit (a x y)) (λ x. bit (b x y)) (λ x. bit (a x y || b x y)) e.left (e.right - e.left)
    (λ x _ _. bit-apart (a x y) (b x y) (apart x y)))

-- a set without squares
pub count_in-none : (extent : Rect) → count_in extent (λ x y. false) ≡ 0
count_in-none e = sum_by-none _ e.bottom e.top (λ y _ _. sum_by-none _ e.left e.right (λ x _ _. refl))

-- a square outside is not in the rectangle
outside : (r : Rect) (x y : ℕ) → ((r.left ≤ x) × (x < r.right) × (r.bottom ≤ y) × (y < r.top) → ⊥) → bit (holds r x y) ≡ 0
outside r x y away = ap bit (false_from_ne_true (holds r x y) (λ inside. away (holds_between r x y inside)))

-- a rectangle has as many squares as its sides say
pub count_in-rect : (extent r : Rect) → IsRectangleIn extent r → count_in extent (holds r) ≡ size_of r
count_in-rect e r legal =
    let row = λ (y : ℕ). sum_by (λ x. bit (holds r x y)) (columns e) in
    let inside : (y : ℕ) → r.bottom ≤ y → y < r.top → row y ≡ (r.right - r.left) * 1 = λ y low high.
    sum_by-part (λ x. bit (holds r x y)) 1 e.left r.left r.right e.right legal.left_in (omega (arith, legal.wide)) legal.right_in
    (λ x from to. ap bit (between_holds r x y from to low high))
    (λ x _ to. outside r x y (λ lines. absurd (omega (arith, to, lines.0)))) (λ x from _. outside r x y (λ lines. absurd (omega (arith, from, lines.1)))) in
    let part =
    sum_by-part row ((r.right - r.left) * 1) e.bottom r.bottom r.top e.top legal.bottom_in (omega (arith, legal.tall)) legal.top_in inside
    (λ y _ to. sum_by-none (λ x. bit (holds r x y)) e.left e.right (λ x _ _. outside r x y (λ lines. absurd (omega (arith, to, lines.2)))))
    (λ y from _. sum_by-none (λ x. bit (holds r x y)) e.left e.right (λ x _ _. outside r x y (λ lines. absurd (omega (arith, from, lines.3))))) in
    omega (arith, part)
