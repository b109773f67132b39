-- Sets that together have all squares of an extent, and no more squares than it has, share none.
use Rattle.std.proofs.Common.{◌≡◌, ℕ, zero, suc, ◌+◌, ◌-◌, ◌<◌, ◌≤◌, Bool, ◌||◌, ◌&&◌, true, false, inl, inr, List, [], ◌∷◌, All, refl, sym, ap, ◌∙◌, arith, sum_by, le_of_eq}
use Rattle.std.proofs.Math.Bool.{and-true}
use Rattle.std.specs.List.{list_any, range_with_len}
use Rattle.std.proofs.lemmas.Bool.{both_ways, cases_Bool, cases_lt, false_from_ne_true}
use Rattle.std.proofs.lemmas.List.Elements.{All-head, All-tail}
use Rattle.std.proofs.lemmas.List.Sums.{sum_by-cons}
use Rattle.mls_errorplane.specs.Common.{IsRectangleIn, Rect, columns, common, has_squares, holds, size_of}
use Rattle.mls_geom.proofs.Holds.{has_squares_lines, holds_between, holds_common, square_has_squares}
use Rattle.mls_errorplane.proofs.RangeSums.{sum_by-plus}
use Rattle.mls_errorplane.proofs.SquareCounts.{bit, count_in, count_in-agree, count_in-none, count_in-rect}

-- ---- numbers
le-none : (a b : ℕ) → a ≡ 0 → a ≤ b
le-none a b none = omega (arith, none)

le-both : (one other either both size rest whole : ℕ) → one + other ≡ either + both → one ≤ size → other ≤ rest → whole ≡ size + rest → either ≤ whole
le-both one other either both size rest whole sums first others all = omega (arith, sums, first, others, all)

-- ---- two sets
bit-both : (a b : Bool) → bit a + bit b ≡ bit (a || b) + bit (a && b)
bit-both true true = refl
bit-both true false = refl
bit-both false true = refl
bit-both false false = refl

-- the squares of two sets are those of either, and once more those of both
count_in-both :
    (extent : Rect) (a b : ℕ → ℕ → Bool)
    → count_in extent a + count_in extent b ≡ count_in extent (λ x y. a x y || b x y) + count_in extent (λ x y. a x y && b x y)
count_in-both e a b =
    let width = e.right - e.left in
    let height = e.top - e.bottom in
    let row = λ (set : ℕ → ℕ → Bool) (y : ℕ). sum_by (λ x. bit (set x y)) (columns e) in
    let either : ℕ → ℕ → Bool = λ x y. a x y || b x y in
    let both : ℕ → ℕ → Bool = λ x y. a x y && b x y in
    let in_row : (y : ℕ) → row a y + row b y ≡ row either y + row both y = λ y.
    sym (sum_by-plus (λ x. bit (a x y)) (λ x. bit (b x y)) (λ x. bit (a x y) + bit (b x y)) e.left width (λ x _ _. refl))
    ∙ sum_by-plus (λ x. bit (either x y)) (λ x. bit (both x y)) (λ x. bit (a x y) + bit (b x y)) e.left width (λ x _ _. bit-both (a x y) (b x y)) in
    sym (sum_by-plus (row a) (row b) (λ y. row a y + row b y) e.bottom height (λ y _ _. refl))
    ∙ sum_by-plus (row either) (row both) (λ y. row a y + row b y) e.bottom height (λ y _ _. in_row y)

-- a sum is at least each of its terms
term-le : (f : ℕ → ℕ) (low n z : ℕ) → low ≤ z → z < low + n → f z ≤ sum_by f (range_with_len low n)
term-le f low zero z from to = absurd (omega (arith, from, to))
term-le f low (suc n) z from to =
    let whole = sum_by-cons f low (range_with_len (low + 1) n) in
    elim (cases_lt low z) [
      | inl later ↦ omega (arith, whole, term-le f (low + 1) n z (omega (arith, later)) (omega (arith, to)))
      | inr first ↦ (let same : z ≡ low = omega (arith, from, first) in omega (arith, whole, ap f same))
    ]

one_or_none : (b : Bool) → bit b ≤ 0 → b ≡ false
one_or_none true few = absurd (omega (arith, few))
one_or_none false few = refl

-- a set that has no square in number has none
none-from_count : (extent : Rect) (set : ℕ → ℕ → Bool) → count_in extent set ≤ 0 → (x y : ℕ) → holds extent x y ≡ true → set x y ≡ false
none-from_count e set none x y inside =
    let lines = holds_between e x y inside in
    let row = term-le (λ y. sum_by (λ x. bit (set x y)) (columns e)) e.bottom (e.top - e.bottom) y lines.2 (omega (arith, lines.2, lines.3)) in
    let square = term-le (λ x. bit (set x y)) e.left (e.right - e.left) x lines.0 (omega (arith, lines.0, lines.1)) in
    one_or_none (set x y) (omega (arith, row, square, none))

-- two sets that together have all squares have as many
pub whole-from-both :
    (extent : Rect) (a b : ℕ → ℕ → Bool) → IsRectangleIn extent extent → ((x y : ℕ) → holds extent x y ≡ true → (a x y || b x y) ≡ true)
    → size_of extent ≤ count_in extent a + count_in extent b
whole-from-both e a b legal whole =
    let all : count_in e (λ x y. a x y || b x y) ≡ size_of e =
    count_in-agree e (λ x y. a x y || b x y) (holds e) (λ x y inside. whole x y inside ∙ sym inside) ∙ count_in-rect e e legal in
    omega (arith, count_in-both e a b, all)

-- so two sets that together have all squares, and no more than there are, share none
pub apart-from_counts :
    (extent : Rect) (a b : ℕ → ℕ → Bool) → ((x y : ℕ) → holds extent x y ≡ true → (a x y || b x y) ≡ true)
    → count_in extent a + count_in extent b ≤ size_of extent → (x y : ℕ) → holds extent x y ≡ true → (a x y && b x y) ≡ false
apart-from_counts e a b whole few x y here =
    let lines = holds_between e x y here in
    let legal : IsRectangleIn e e = record {
      left_in = omega arith;
      wide = omega (arith, lines.0, lines.1);
      right_in = omega arith;
      bottom_in = omega arith;
      tall = omega (arith, lines.2, lines.3);
      top_in = omega arith;
    } in
    let all : count_in e (λ x y. a x y || b x y) ≡ size_of e =
    count_in-agree e (λ x y. a x y || b x y) (holds e) (λ x y inside. whole x y inside ∙ sym inside) ∙ count_in-rect e e legal in
    none-from_count e (λ x y. a x y && b x y) (omega (arith, count_in-both e a b, all, few)) x y here

-- ---- rectangles
pub in_common : (extent r : Rect) (x y : ℕ) → holds extent x y ≡ true → holds r x y ≡ holds (common r extent) x y
in_common e r x y inside = sym (holds_common r e x y ∙ ap (λ b. holds r x y && b) inside ∙ and-true (holds r x y))

pub not_common : (extent r : Rect) (x y : ℕ) → has_squares (common r extent) ≡ false → holds extent x y ≡ true → holds r x y ≡ false
not_common e r x y none inside =
    false_from_ne_true (holds r x y) (λ here. both_ways (has_squares (common r e)) none (square_has_squares (common r e) x y (sym (in_common e r x y inside) ∙ here)))

-- a rectangle has as many squares in an extent as the lines of their common squares say, if there are any
pub count_in-meeting : (extent r : Rect) → has_squares (common r extent) ≡ true → count_in extent (holds r) ≡ size_of (common r extent)
count_in-meeting e r some =
    let lines = has_squares_lines (common r e) some in
    let same : count_in e (holds r) ≡ count_in e (holds (common r e)) = count_in-agree e (holds r) (holds (common r e)) (λ x y inside. in_common e r x y inside) in
    let legal : IsRectangleIn e (common r e) = record { left_in = omega arith; wide = lines.0; right_in = omega arith; bottom_in = omega arith; tall = lines.1; top_in = omega arith } in
    same ∙ count_in-rect e (common r e) legal

-- and no more where there are none
pub count_in-common : (extent r : Rect) → count_in extent (holds r) ≤ size_of (common r extent)
count_in-common e r = elim (cases_Bool (has_squares (common r e))) [
  | inl some ↦ le_of_eq (count_in-meeting e r some)
  | inr none ↦ le-none (count_in e (holds r)) (size_of (common r e)) (count_in-agree e (holds r) (λ x y. false) (λ x y inside. not_common e r x y none inside) ∙ count_in-none e)
]

-- ---- lists of sets
-- the squares of a list of sets are no more than those of each
pub count_in-list :
    {X : Type 0} → (extent : Rect) (set : X → ℕ → ℕ → Bool) (size : X → ℕ) (items : List X) → All (λ item. count_in extent (set item) ≤ size item) items
    → count_in extent (λ x y. list_any (λ item. set item x y) items) ≤ sum_by size items
count_in-list {X} e set size [] few = le-none (count_in e (λ x y. false)) (sum_by size []) (count_in-none e)
count_in-list {X} e set size (item ∷ rest) few =
    let others : count_in e (λ x y. list_any (λ other. set other x y) rest) ≤ sum_by size rest = count_in-list e set size rest (All-tail (λ other. count_in e (set other) ≤ size other) item rest few) in
    let first : count_in e (set item) ≤ size item = All-head (λ other. count_in e (set other) ≤ size other) item rest few in
    le-both (count_in e (set item)) (count_in e (λ x y. list_any (λ other. set other x y) rest)) (count_in e (λ x y. set item x y || list_any (λ other. set other x y) rest)) _
    (size item) (sum_by size rest) (sum_by size (item ∷ rest)) (count_in-both e (set item) (λ x y. list_any (λ other. set other x y) rest)) first others (sum_by-cons size item rest)
