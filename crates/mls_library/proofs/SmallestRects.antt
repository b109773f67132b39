-- The smallest rectangle round squares, by its squares: each square lies in it, and each of its four sides has one.
use Rattle.std.proofs.Common.{◌≡◌, ℕ, ◌+◌, ◌-◌, ◌<◌, ◌≤◌, min, max, Bool, true, false, not, ◌||◌, if◌then◌else◌, Option, Some, None, inl, inr, ◌⊎◌, refl, sym, ap, subst, ◌∙◌, arith}
use Rattle.std.specs.List.{list_any, range_with_len}
use Rattle.std.proofs.lemmas.Bool.{cases_lt}
use Rattle.std.proofs.lemmas.Bool.Decides.{nat_tests}
use Rattle.std.proofs.lemmas.List.Folds.{Any-from_list_any, list_any-from_Any}
use Rattle.mls_geom.specs.Pictures.{rows}
use Rattle.mls_geom.specs.Rects.{IsRectangleIn, Rect, holds}
use Rattle.mls_geom.specs.World.{world}
use Rattle.mls_geom.proofs.Holds.{between_holds, holds_between}
use Rattle.mls_geom.proofs.PiecePictures.{holds_outer}
use Rattle.mls_geom.proofs.Squares.{Contains-range_with_len, range_with_len-Contains}
use Rattle.mls_library.specs.Bounds.{bounds_of, column_has, round_both, row_has}
use Rattle.mls_library.proofs.LineEnds.{back_above, back_fails, back_of, front_below, front_fails, front_of}

-- the world has the square, which passes the test
abbrev pub Passes : (ℕ → ℕ → Bool) → ℕ → ℕ → Type 0
Passes test x y = (holds world x y ≡ true) × (test x y ≡ true)

pub record IsSmallest (test : ℕ → ℕ → Bool) (e : Rect) : Type 0 where
  pub each : (x y : ℕ) → Passes test x y → holds e x y ≡ true
  pub on_left : (y : ℕ) × Passes test e.left y
  pub on_bottom : (x : ℕ) × Passes test x e.bottom
  pub on_right : (x : ℕ) × (y : ℕ) × (e.right ≡ x + 1) × Passes test x y
  pub on_top : (x : ℕ) × (y : ℕ) × (e.top ≡ y + 1) × Passes test x y

-- or there is none, as no square of the world passes
abbrev pub IsBounds : (ℕ → ℕ → Bool) → Option Rect → Type 0
IsBounds test None = (x y : ℕ) → Passes test x y → ⊥
IsBounds test (Some e) = IsSmallest test e

-- ---- there is one
has-from : (b : Bool) → not b ≡ false → b ≡ true
has-from true h = refl
has-from false h = absurd (cc h)

any_from : (p : ℕ → Bool) (low high k : ℕ) → low ≤ k → k < high → p k ≡ true → list_any p (range_with_len low (high - low)) ≡ true
any_from p low high k above below passes =
    let (i, within, is) = Contains-range_with_len low high k above below in
    list_any-from_Any p (range_with_len low (high - low)) (i, k, within, is, passes)

from_any : (p : ℕ → Bool) (low high : ℕ) → list_any p (range_with_len low (high - low)) ≡ true → (k : ℕ) × (low ≤ k) × (k < high) × (p k ≡ true)
from_any p low high h =
    let (i, k, within, is, passes) = Any-from_list_any p (range_with_len low (high - low)) h in
    let lines = range_with_len-Contains low high k (i, within, is) in
    (k, lines.0, lines.1, passes)

module _ (test : ℕ → ℕ → Bool) where
  column_there : (x y : ℕ) → Passes test x y → not (column_has test x) ≡ false
  column_there x y passes =
      let lines = holds_between world x y passes.0 in
      ap not (any_from (λ y. test x y) world.bottom world.top y lines.2 lines.3 passes.1)

  row_there : (x y : ℕ) → Passes test x y → not (row_has test y) ≡ false
  row_there x y passes =
      let lines = holds_between world x y passes.0 in
      ap not (any_from (λ x. test x y) world.left world.right x lines.0 lines.1 passes.1)

  in_column : (x : ℕ) → world.left ≤ x → x < world.right → not (column_has test x) ≡ false → (y : ℕ) × Passes test x y
  in_column x above below some =
      let (y, low, high, passes) = from_any (λ y. test x y) world.bottom world.top (has-from (column_has test x) some) in
      (y, (between_holds world x y above below low high, passes))

  in_row : (y : ℕ) → world.bottom ≤ y → y < world.top → not (row_has test y) ≡ false → (x : ℕ) × Passes test x y
  in_row y above below some =
      let (x, low, high, passes) = from_any (λ x. test x y) world.left world.right (has-from (row_has test y) some) in
      (x, (between_holds world x y low high above below, passes))

  -- the world without its empty columns and rows at the sides
  abbrev trimmed : Rect
  trimmed = record {
    left = front_of (λ x. not (column_has test x)) world.left world.right;
    bottom = front_of (λ y. not (row_has test y)) world.bottom world.top;
    right = back_of (λ x. not (column_has test x)) world.left world.right;
    top = back_of (λ y. not (row_has test y)) world.bottom world.top;
  }

  in_trimmed : (x y : ℕ) → Passes test x y → holds trimmed x y ≡ true
  in_trimmed x y passes =
      let lines = holds_between world x y passes.0 in
      let column = column_there x y passes in
      let row = row_there x y passes in
      between_holds trimmed x y
      (front_below (λ x. not (column_has test x)) world.left world.right x lines.0 lines.1 column)
      (back_above (λ x. not (column_has test x)) world.left world.right x lines.0 lines.1 column)
      (front_below (λ y. not (row_has test y)) world.bottom world.top y lines.2 lines.3 row)
      (back_above (λ y. not (row_has test y)) world.bottom world.top y lines.2 lines.3 row)

  IsSmallest-trimmed : (x y : ℕ) → Passes test x y → IsSmallest test trimmed
  IsSmallest-trimmed x y passes =
      let lines = holds_between world x y passes.0 in
      let column = column_there x y passes in
      let row = row_there x y passes in
      let left = front_fails (λ x. not (column_has test x)) world.left world.right x lines.0 lines.1 column in
      let bottom = front_fails (λ y. not (row_has test y)) world.bottom world.top y lines.2 lines.3 row in
      let (column_last, right, r0, r1, r2) = back_fails (λ x. not (column_has test x)) world.left world.right x lines.0 lines.1 column in
      let (row_last, top, t0, t1, t2) = back_fails (λ y. not (row_has test y)) world.bottom world.top y lines.2 lines.3 row in
      let on_right = in_column column_last r0 r1 r2 in
      let on_top = in_row row_last t0 t1 t2 in
      record {
        each = in_trimmed;
        on_left = in_column (front_of (λ x. not (column_has test x)) world.left world.right) left.0 left.1 left.2;
        on_bottom = in_row (front_of (λ y. not (row_has test y)) world.bottom world.top) bottom.0 bottom.1 bottom.2;
        on_right = (column_last, on_right.0, right, on_right.1);
        on_top = (on_top.0, row_last, top, on_top.1);
      }

  -- no test of the rows both fails and passes; over any value, so that the world's rows aren't listed
  not_both : {A : Type 0} (passes : Bool) → passes ≡ false → passes ≡ true → A
  not_both true fails is = absurd (cc fails)
  not_both false fails is = absurd (cc is)

  by_rows : (some : Bool) → list_any (row_has test) (rows world) ≡ some → IsBounds test (if some then Some trimmed else None)
  by_rows true h =
      let (y, low, high, has) = from_any (row_has test) world.bottom world.top h in
      let (x, passes) = in_row y low high (ap not has) in
      IsSmallest-trimmed x y passes
  by_rows false h = λ x y passes.
      let lines = holds_between world x y passes.0 in
      let here = any_from (λ x. test x y) world.left world.right x lines.0 lines.1 passes.1 in
      not_both (list_any (row_has test) (rows world)) h (any_from (row_has test) world.bottom world.top y lines.2 lines.3 here)

  pub IsBounds-bounds_of : IsBounds test (bounds_of test)
  unfolding bounds_of
  IsBounds-bounds_of = by_rows (list_any (row_has test) (rows world)) refl

-- ---- and only one
module _ (test : ℕ → ℕ → Bool) (a b : Rect) (one : IsSmallest test a) (other : IsSmallest test b) where
  lies_within : (b.left ≤ a.left) × (b.bottom ≤ a.bottom) × (a.right ≤ b.right) × (a.top ≤ b.top)
  lies_within =
      let (ly, on_left) = one.on_left in
      let (bx, on_bottom) = one.on_bottom in
      let (rx, ry, right, on_right) = one.on_right in
      let (tx, ty, top, on_top) = one.on_top in
      let left_lines = holds_between b a.left ly (other.each a.left ly on_left) in
      let bottom_lines = holds_between b bx a.bottom (other.each bx a.bottom on_bottom) in
      let right_lines = holds_between b rx ry (other.each rx ry on_right) in
      let top_lines = holds_between b tx ty (other.each tx ty on_top) in
      (left_lines.0, bottom_lines.2, omega (arith, right, right_lines.1), omega (arith, top, top_lines.3))

same_lines : (a b : Rect) → a.left ≡ b.left → a.bottom ≡ b.bottom → a.right ≡ b.right → a.top ≡ b.top → a ≡ b
same_lines a b left bottom right top =
    ap (λ l. record { left = l; bottom = a.bottom; right = a.right; top = a.top }) left
    ∙ ap (λ l. record { left = b.left; bottom = l; right = a.right; top = a.top }) bottom
    ∙ ap (λ l. record { left = b.left; bottom = b.bottom; right = l; top = a.top }) right
    ∙ ap (λ l. record { left = b.left; bottom = b.bottom; right = b.right; top = l }) top

same_smallest : (test : ℕ → ℕ → Bool) (a b : Rect) → IsSmallest test a → IsSmallest test b → a ≡ b
same_smallest test a b one other =
    let there = lies_within test a b one other in
    let back = lies_within test b a other one in
    same_lines a b (omega (arith, there.0, back.0)) (omega (arith, there.1, back.1)) (omega (arith, there.2, back.2)) (omega (arith, there.3, back.3))

pub same_bounds : (test : ℕ → ℕ → Bool) (a b : Option Rect) → IsBounds test a → IsBounds test b → a ≡ b
same_bounds test None None one other = refl
same_bounds test None (Some b) one other = absurd (one b.left other.on_left.0 other.on_left.1)
same_bounds test (Some a) None one other = absurd (other a.left one.on_left.0 one.on_left.1)
same_bounds test (Some a) (Some b) one other = ap (λ e. Some e) (same_smallest test a b one other)

-- the rectangle depends on the squares of the world alone
pub same_squares : (s t : ℕ → ℕ → Bool) → ((x y : ℕ) → holds world x y ≡ true → s x y ≡ t x y) → bounds_of s ≡ bounds_of t
same_squares s t same = same_bounds t (bounds_of s) (bounds_of t) (by (bounds_of s) (IsBounds-bounds_of s)) (IsBounds-bounds_of t)
  where
    onward : (x y : ℕ) → Passes s x y → Passes t x y
    onward x y passes = (passes.0, sym (same x y passes.0) ∙ passes.1)

    back : (x y : ℕ) → Passes t x y → Passes s x y
    back x y passes = (passes.0, same x y passes.0 ∙ passes.1)

    by : (found : Option Rect) → IsBounds s found → IsBounds t found
    by None none = λ x y passes. none x y (back x y passes)
    by (Some e) smallest = record {
      each = λ x y passes. smallest.each x y (back x y passes);
      on_left = (smallest.on_left.0, onward e.left smallest.on_left.0 smallest.on_left.1);
      on_bottom = (smallest.on_bottom.0, onward smallest.on_bottom.0 e.bottom smallest.on_bottom.1);
      on_right = let (x, y, is, passes) = smallest.on_right in (x, y, is, onward x y passes);
      on_top = let (x, y, is, passes) = smallest.on_top in (x, y, is, onward x y passes);
    }

-- ---- round the squares of two tests
or_cases : (a b : Bool) → (a || b) ≡ true → (a ≡ true) ⊎ (b ≡ true)
or_cases true b h = inl refl
or_cases false b h = inr h

or_left : (a b : Bool) → a ≡ true → (a || b) ≡ true
or_left a b h = rw h refl

or_right : (a b : Bool) → b ≡ true → (a || b) ≡ true
or_right true b h = refl
or_right false b h = h

abbrev pub either : (ℕ → ℕ → Bool) → (ℕ → ℕ → Bool) → ℕ → ℕ → Bool
either one other x y = one x y || other x y

-- the rectangle round both rectangles
abbrev both_of : Rect → Rect → Rect
both_of a b = record { left = min a.left b.left; bottom = min a.bottom b.bottom; right = max a.right b.right; top = max a.top b.top }

in_one : (a b : Rect) (x y : ℕ) → holds a x y ≡ true → holds (both_of a b) x y ≡ true
in_one a b x y inside = grind (arith, nat_tests)

in_other : (a b : Rect) (x y : ℕ) → holds b x y ≡ true → holds (both_of a b) x y ≡ true
in_other a b x y inside = grind (arith, nat_tests)

module _ (s t : ℕ → ℕ → Bool) where
  Passes-one : (x y : ℕ) → Passes s x y → Passes (either s t) x y
  Passes-one x y passes = (passes.0, or_left (s x y) (t x y) passes.1)

  Passes-other : (x y : ℕ) → Passes t x y → Passes (either s t) x y
  Passes-other x y passes = (passes.0, or_right (s x y) (t x y) passes.1)

  -- where only one of them has squares
  IsSmallest-one : (e : Rect) → IsSmallest s e → IsBounds t None → IsSmallest (either s t) e
  IsSmallest-one e one none = record {
    each = λ x y passes. elim (or_cases (s x y) (t x y) passes.1) [
      | inl here ↦ one.each x y (passes.0, here)
      | inr there ↦ absurd (none x y (passes.0, there))
    ];
    on_left = (one.on_left.0, Passes-one e.left one.on_left.0 one.on_left.1);
    on_bottom = (one.on_bottom.0, Passes-one one.on_bottom.0 e.bottom one.on_bottom.1);
    on_right = let (x, y, is, passes) = one.on_right in (x, y, is, Passes-one x y passes);
    on_top = let (x, y, is, passes) = one.on_top in (x, y, is, Passes-one x y passes);
  }

  IsSmallest-other : (e : Rect) → IsBounds s None → IsSmallest t e → IsSmallest (either s t) e
  IsSmallest-other e none other = record {
    each = λ x y passes. elim (or_cases (s x y) (t x y) passes.1) [
      | inl here ↦ absurd (none x y (passes.0, here))
      | inr there ↦ other.each x y (passes.0, there)
    ];
    on_left = (other.on_left.0, Passes-other e.left other.on_left.0 other.on_left.1);
    on_bottom = (other.on_bottom.0, Passes-other other.on_bottom.0 e.bottom other.on_bottom.1);
    on_right = let (x, y, is, passes) = other.on_right in (x, y, is, Passes-other x y passes);
    on_top = let (x, y, is, passes) = other.on_top in (x, y, is, Passes-other x y passes);
  }

  module _ (a b : Rect) (one : IsSmallest s a) (other : IsSmallest t b) where
    both_left : (y : ℕ) × Passes (either s t) (min a.left b.left) y
    both_left = elim (cases_lt a.left b.left) [
      | inl before ↦
          let is : a.left ≡ min a.left b.left = omega (arith, before) in
          (one.on_left.0, subst (λ x. Passes (either s t) x one.on_left.0) is (Passes-one a.left one.on_left.0 one.on_left.1))
      | inr behind ↦
          let is : b.left ≡ min a.left b.left = omega (arith, behind) in
          (other.on_left.0, subst (λ x. Passes (either s t) x other.on_left.0) is (Passes-other b.left other.on_left.0 other.on_left.1))
    ]

    both_bottom : (x : ℕ) × Passes (either s t) x (min a.bottom b.bottom)
    both_bottom = elim (cases_lt a.bottom b.bottom) [
      | inl before ↦
          let is : a.bottom ≡ min a.bottom b.bottom = omega (arith, before) in
          (one.on_bottom.0, subst (λ y. Passes (either s t) one.on_bottom.0 y) is (Passes-one one.on_bottom.0 a.bottom one.on_bottom.1))
      | inr behind ↦
          let is : b.bottom ≡ min a.bottom b.bottom = omega (arith, behind) in
          (other.on_bottom.0, subst (λ y. Passes (either s t) other.on_bottom.0 y) is (Passes-other other.on_bottom.0 b.bottom other.on_bottom.1))
    ]

    both_right : (x : ℕ) × (y : ℕ) × (max a.right b.right ≡ x + 1) × Passes (either s t) x y
    both_right = elim (cases_lt a.right b.right) [
      | inl before ↦ let (x, y, is, passes) = other.on_right in (x, y, omega (arith, before, is), Passes-other x y passes)
      | inr behind ↦ let (x, y, is, passes) = one.on_right in (x, y, omega (arith, behind, is), Passes-one x y passes)
    ]

    both_top : (x : ℕ) × (y : ℕ) × (max a.top b.top ≡ y + 1) × Passes (either s t) x y
    both_top = elim (cases_lt a.top b.top) [
      | inl before ↦ let (x, y, is, passes) = other.on_top in (x, y, omega (arith, before, is), Passes-other x y passes)
      | inr behind ↦ let (x, y, is, passes) = one.on_top in (x, y, omega (arith, behind, is), Passes-one x y passes)
    ]

    IsSmallest-both : IsSmallest (either s t) (both_of a b)
    IsSmallest-both = record {
      each = λ x y passes. elim (or_cases (s x y) (t x y) passes.1) [
        | inl here ↦ in_one a b x y (one.each x y (passes.0, here))
        | inr there ↦ in_other a b x y (other.each x y (passes.0, there))
      ];
      on_left = both_left;
      on_bottom = both_bottom;
      on_right = both_right;
      on_top = both_top;
    }

  pub IsBounds-round_both : (a b : Option Rect) → IsBounds s a → IsBounds t b → IsBounds (either s t) (round_both a b)
  IsBounds-round_both None None one other = λ x y passes. elim (or_cases (s x y) (t x y) passes.1) [
    | inl here ↦ one x y (passes.0, here)
    | inr there ↦ other x y (passes.0, there)
  ]
  IsBounds-round_both None (Some b) one other = IsSmallest-other b one other
  IsBounds-round_both (Some a) None one other = IsSmallest-one a one other
  IsBounds-round_both (Some a) (Some b) one other = IsSmallest-both a b one other

-- the rectangle round both is the one round the squares of either test
pub bounds_of-either : (s t : ℕ → ℕ → Bool) → bounds_of (either s t) ≡ round_both (bounds_of s) (bounds_of t)
bounds_of-either s t =
    same_bounds (either s t) (bounds_of (either s t)) (round_both (bounds_of s) (bounds_of t)) (IsBounds-bounds_of (either s t))
    (IsBounds-round_both s t (bounds_of s) (bounds_of t) (IsBounds-bounds_of s) (IsBounds-bounds_of t))

-- ---- round no squares, and round those of a rectangle
pub bounds_of-none : (test : ℕ → ℕ → Bool) → ((x y : ℕ) → test x y ≡ false) → bounds_of test ≡ None
bounds_of-none test none =
    same_bounds test (bounds_of test) None (IsBounds-bounds_of test) (λ x y passes. absurd (cc (sym passes.1 ∙ none x y)))

pub bounds_of-rect : (e : Rect) → IsRectangleIn world e → bounds_of (holds e) ≡ Some e
bounds_of-rect e legal =
    let inside = λ (x y : ℕ) (in_e : holds e x y ≡ true). holds_outer world e x y legal in_e in
    let low = between_holds e e.left e.bottom (omega arith) legal.wide (omega arith) legal.tall in
    let right : e.right ≡ e.right - 1 + 1 = omega (arith, legal.wide) in
    let top : e.top ≡ e.top - 1 + 1 = omega (arith, legal.tall) in
    let high = between_holds e (e.right - 1) (e.top - 1) (omega (arith, legal.wide)) (omega (arith, legal.wide)) (omega (arith, legal.tall)) (omega (arith, legal.tall)) in
    let smallest : IsSmallest (holds e) e = record {
      each = λ x y passes. passes.1;
      on_left = (e.bottom, (inside e.left e.bottom low, low));
      on_bottom = (e.left, (inside e.left e.bottom low, low));
      on_right = (e.right - 1, e.top - 1, right, (inside (e.right - 1) (e.top - 1) high, high));
      on_top = (e.right - 1, e.top - 1, top, (inside (e.right - 1) (e.top - 1) high, high));
    } in
    same_bounds (holds e) (bounds_of (holds e)) (Some e) (IsBounds-bounds_of (holds e)) smallest
