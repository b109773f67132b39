-- Sums over ranges, and over the squares of rows and columns.
use Rattle.std.proofs.Common.{◌≡◌, ℕ, zero, suc, ◌+◌, ◌-◌, ◌*◌, ◌<◌, ◌≤◌, ◌&&◌, nat_le, nat_lt, Bool, true, cond, refl, sym, inl, inr, le_refl, arith, sum_by, leb-true, ltb-true}
use Rattle.std.specs.List.{range_with_len}
use Rattle.std.proofs.lemmas.Bool.{and_parts, cases_Bool, cases_lt, cond-false, cond-true, false_from_ne_true}
use Rattle.std.proofs.lemmas.List.Sums.{sum_by-cons}
use Rattle.mls_geom.proofs.CornerCounts.{sum_by-between, sum_by-first}
use Rattle.mls_errorplane.proofs.RangeSums.{sum_by-plus}

-- a sum of larger terms is larger
pub sum_by-le :
    (f g : ℕ → ℕ) (low n : ℕ) → ((z : ℕ) → low ≤ z → z < low + n → f z ≤ g z) → sum_by f (range_with_len low n) ≤ sum_by g (range_with_len low n)
sum_by-le f g low zero less = le_refl 0
sum_by-le f g low (suc n) less =
    let rest = sum_by-le f g (low + 1) n (λ z from to. less z (omega (arith, from)) (omega (arith, to))) in
    let here = less low (le_refl low) (omega arith) in
    omega (arith, rest, here, sum_by-cons f low (range_with_len (low + 1) n), sum_by-cons g low (range_with_len (low + 1) n))

-- a sum of terms that are 0
pub sum_by-zero : (f : ℕ → ℕ) (low n : ℕ) → ((z : ℕ) → low ≤ z → z < low + n → f z ≡ 0) → sum_by f (range_with_len low n) ≡ 0
sum_by-zero f low zero none = refl
sum_by-zero f low (suc n) none =
    let rest = sum_by-zero f (low + 1) n (λ z from to. none z (omega (arith, from)) (omega (arith, to))) in
    let here = none low (le_refl low) (omega arith) in
    omega (arith, rest, here, sum_by-cons f low (range_with_len (low + 1) n))

-- a sum by rows is the sum by columns
pub sum_by-transposed :
    (f : ℕ → ℕ → ℕ) (left wide low n : ℕ)
    → sum_by (λ y. sum_by (λ x. f x y) (range_with_len left wide)) (range_with_len low n) ≡ sum_by (λ x. sum_by (λ y. f x y) (range_with_len low n)) (range_with_len left wide)
sum_by-transposed f left wide low zero = sym (sum_by-zero (λ x. sum_by (λ y. f x y) (range_with_len low 0)) left wide (λ x _ _. refl))
sum_by-transposed f left wide low (suc n) =
    let row = λ (y : ℕ). sum_by (λ x. f x y) (range_with_len left wide) in
    let first = sum_by-cons row low (range_with_len (low + 1) n) in
    let rest = sum_by-transposed f left wide (low + 1) n in
    let each =
    sum_by-plus (λ x. f x low) (λ x. sum_by (λ y. f x y) (range_with_len (low + 1) n)) (λ x. sum_by (λ y. f x y) (range_with_len low (suc n))) left wide
    (λ x _ _. sum_by-cons (λ y. f x y) low (range_with_len (low + 1) n)) in
    omega (arith, first, rest, each)

-- where at most one number of a range passes a test, at most one is counted
pub sum_by-once :
    (p : ℕ → Bool) (low n : ℕ) → ((i j : ℕ) → low ≤ i → i < j → j < low + n → p i ≡ true → p j ≡ true → ⊥)
    → sum_by (λ z. cond {A = ℕ} (p z) 1 0) (range_with_len low n) ≤ 1
sum_by-once p low zero once = omega arith
sum_by-once p low (suc n) once =
    let each = λ (z : ℕ). cond {A = ℕ} (p z) 1 0 in
    let first = sum_by-cons each low (range_with_len (low + 1) n) in
    elim (cases_Bool (p low)) [
      | inl here ↦
          let none =
          sum_by-zero each (low + 1) n
          (λ z from to. cond-false (p z) 1 0 (false_from_ne_true (p z) (once low z (le_refl low) (omega (arith, from)) (omega (arith, to)) here))) in
          let one = cond-true {A = ℕ} (p low) 1 0 here in
          omega (arith, first, none, one)
      | inr passed ↦
          let rest = sum_by-once p (low + 1) n (λ i j from before to. once i j (omega (arith, from)) before (omega (arith, to))) in
          let nothing = cond-false {A = ℕ} (p low) 1 0 passed in
          omega (arith, first, rest, nothing)
    ]

-- a number for each row of a band
abbrev pub in_band : ℕ → ℕ → ℕ → ℕ → ℕ
in_band low high n y = cond (nat_le low y && nat_lt y high) n 0

-- counted twice, the rows of a band are no more than twice its height
band_rows :
    (low high from n : ℕ)
    → (sum_by (in_band low high 2) (range_with_len from n) ≤ 2 * (high - low)) × (sum_by (in_band low high 2) (range_with_len from n) ≤ 2 * (high - from))
band_rows low high from zero = (omega arith, omega arith)
band_rows low high from (suc n) =
    let rest = band_rows low high (from + 1) n in
    let first = sum_by-cons (in_band low high 2) from (range_with_len (from + 1) n) in
    elim (cases_Bool (nat_le low from && nat_lt from high)) [
      | inl here ↦
          let tests = and_parts (nat_le low from) (nat_lt from high) here in
          let two = cond-true {A = ℕ} (nat_le low from && nat_lt from high) 2 0 here in
          let above = leb-true low from tests.0 in
          let below = ltb-true from high tests.1 in
          (omega (arith, rest.1, first, two, above, below), omega (arith, rest.1, first, two, above, below))
      | inr outside ↦
          let nothing = cond-false {A = ℕ} (nat_le low from && nat_lt from high) 2 0 outside in
          (omega (arith, rest.0, first, nothing), omega (arith, rest.1, first, nothing))
    ]

pub sum_by-in_band : (low high from n : ℕ) → sum_by (in_band low high 2) (range_with_len from n) ≤ 2 * (high - low)
sum_by-in_band low high from n = (band_rows low high from n).0

-- the terms of a sum are at most those of one sum below a turn and those of another above it, and the one at the turn is at most all that the other has from a base up to there
pub record TurnsAt (sum one other more : ℕ → ℕ) (base turn : ℕ) : Type 0 where
  pub below : (y : ℕ) → y < turn → sum y ≤ one y + more y
  pub at : sum turn ≤ sum_by other (range_with_len base ((turn + 1) - base))
  pub above : (y : ℕ) → turn < y → sum y ≤ other y

module _
    (sum one other more : ℕ → ℕ) (low base turn high : ℕ) (from : low ≤ base) (up : base ≤ turn) (turns : TurnsAt sum one other more base turn) where
  part_below :
      (top : ℕ) → low ≤ top → top ≤ turn
      → sum_by sum (range_with_len low (top - low)) ≤ sum_by one (range_with_len low (top - low)) + sum_by more (range_with_len low (top - low))
  part_below top over under =
      let both = sum_by-plus one more (λ y. one y + more y) low (top - low) (λ y _ _. refl) in
      let less = sum_by-le sum (λ y. one y + more y) low (top - low) (λ y _ to. turns.below y (omega (arith, to, over, under))) in
      omega (arith, both, less)

  part_above : sum_by sum (range_with_len (turn + 1) (high - (turn + 1))) ≤ sum_by other (range_with_len (turn + 1) (high - (turn + 1)))
  part_above = sum_by-le sum other (turn + 1) (high - (turn + 1)) (λ y above _. turns.above y (omega (arith, above)))

  turn_inside :
      turn < high
      → sum_by sum (range_with_len low (high - low))
      ≤ sum_by one (range_with_len low (high - low)) + sum_by other (range_with_len base (high - base)) + sum_by more (range_with_len low (high - low))
  turn_inside under =
      let below = part_below turn (omega (arith, from, up)) (le_refl turn) in
      let cut = sum_by-between sum low turn high (omega (arith, from, up)) (omega (arith, under)) in
      let first = sum_by-first sum turn high under in
      let cut_one = sum_by-between one low turn high (omega (arith, from, up)) (omega (arith, under)) in
      let cut_more = sum_by-between more low turn high (omega (arith, from, up)) (omega (arith, under)) in
      let cut_other = sum_by-between other base (turn + 1) high (omega (arith, up)) (omega (arith, under)) in
      omega (arith, below, part_above, turns.at, cut, first, cut_one, cut_more, cut_other)

  -- then the whole sum is at most those of both
  pub sum_by-TurnsAt :
      sum_by sum (range_with_len low (high - low))
      ≤ sum_by one (range_with_len low (high - low)) + sum_by other (range_with_len base (high - base)) + sum_by more (range_with_len low (high - low))
  sum_by-TurnsAt = elim (cases_lt turn high) [
    | inl under ↦ turn_inside under
    | inr over ↦ elim (cases_lt high low) [
      | inl empty ↦ (let none : high - low ≡ 0 = omega (arith, empty) in rw none (omega arith))
      | inr tall ↦ omega (arith, part_below high tall over)
    ]
  ]
