-- Sums over the numbers of a range.
use Rattle.std.proofs.Common.{◌≡◌, ℕ, zero, suc, ◌+◌, ◌-◌, ◌*◌, ◌<◌, ◌≤◌, refl, sym, le_refl, arith, sum_by}
use Rattle.std.specs.List.{range_with_len}
use Rattle.std.proofs.lemmas.List.Sums.{sum_by-cons}
use Rattle.std.proofs.Math.Nat.{zero-mul}
use Rattle.mls_geom.proofs.CornerCounts.{sum_by-between, sum_by-none}

-- the first number, and the others
sum_by-suc : (f : ℕ → ℕ) (low n : ℕ) → sum_by f (range_with_len low (suc n)) ≡ f low + sum_by f (range_with_len (low + 1) n)
sum_by-suc f low n = sum_by-cons f low (range_with_len (low + 1) n)

-- where each term is a sum of two, so is the sum
pub sum_by-plus :
    (f g h : ℕ → ℕ) (low n : ℕ) → ((z : ℕ) → low ≤ z → z < low + n → h z ≡ f z + g z)
    → sum_by h (range_with_len low n) ≡ sum_by f (range_with_len low n) + sum_by g (range_with_len low n)
sum_by-plus f g h low zero same = refl
sum_by-plus f g h low (suc n) same =
    let rest = sum_by-plus f g h (low + 1) n (λ z from to. same z (omega (arith, from)) (omega (arith, to))) in
    let here = same low (le_refl low) (omega arith) in
    omega (arith, rest, here, sum_by-suc f low n, sum_by-suc g low n, sum_by-suc h low n)

-- sums of the same terms are one
pub sum_by-agree :
    (f g : ℕ → ℕ) (low n : ℕ) → ((z : ℕ) → low ≤ z → z < low + n → f z ≡ g z) → sum_by f (range_with_len low n) ≡ sum_by g (range_with_len low n)
sum_by-agree f g low zero same = refl
sum_by-agree f g low (suc n) same =
    let rest = sum_by-agree f g (low + 1) n (λ z from to. same z (omega (arith, from)) (omega (arith, to))) in
    let here = same low (le_refl low) (omega arith) in
    omega (arith, rest, here, sum_by-suc f low n, sum_by-suc g low n)

-- a sum of terms that are all one number
sum_by-each : (f : ℕ → ℕ) (c low n : ℕ) → ((z : ℕ) → low ≤ z → z < low + n → f z ≡ c) → sum_by f (range_with_len low n) ≡ n * c
sum_by-each f c low zero same = sym (zero-mul c)
sum_by-each f c low (suc n) same =
    let rest = sum_by-each f c (low + 1) n (λ z from to. same z (omega (arith, from)) (omega (arith, to))) in
    let here = same low (le_refl low) (omega arith) in
    omega (arith, rest, here, sum_by-suc f low n)

-- a sum of terms that are one number in a part of the range, and 0 outside it
pub sum_by-part :
    (f : ℕ → ℕ) (c low from to high : ℕ) → low ≤ from → from ≤ to → to ≤ high → ((z : ℕ) → from ≤ z → z < to → f z ≡ c)
    → ((z : ℕ) → low ≤ z → z < from → f z ≡ 0) → ((z : ℕ) → to ≤ z → z < high → f z ≡ 0) → sum_by f (range_with_len low (high - low)) ≡ (to - from) * c
sum_by-part f c low from to high up over on inside before after =
    let first = sum_by-between f low from high up (omega (arith, over, on)) in
    let second = sum_by-between f from to high over on in
    let part = sum_by-each f c from (to - from) (λ z above below. inside z above (omega (arith, over, below))) in
    omega (arith, first, second, part, sum_by-none f low from before, sum_by-none f to high after)
