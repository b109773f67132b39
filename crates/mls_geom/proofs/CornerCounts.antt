-- The number of covered strips of the rows below a line, by rows and by columns.
use Rattle.mls_geom.proofs.Common.{◌≡◌, ℕ, zero, suc, ◌+◌, ◌-◌, ◌<◌, ◌≤◌, [], ◌∷◌, ◌++◌, refl, ap, add-zero, arith, All, nat_tests, range_with_len, sum_by, length-range_with_len, get_or-range_with_len, sum_by-append, sum_by-cons, sum_by-le}
use Rattle.mls_geom.proofs.Definitions.{Rect, Picture, AreStacked, up_to, covered_count, corners_between}

-- a range cut in two
range_with_len-cut : (a m n : ℕ) → range_with_len a (m + n) ≡ range_with_len a m ++ range_with_len (a + m) n
range_with_len-cut a zero n =
    let same : 0 + n ≡ n = omega arith in
    rw (same, add-zero a)
range_with_len-cut a (suc m) n =
    let longer : suc m + n ≡ suc (m + n) = omega arith in
    let next : a + suc m ≡ a + 1 + m = omega arith in
    rw (longer, next) (ap (λ xs. a ∷ xs) (range_with_len-cut (a + 1) m n))

-- sums over ranges
pub sum_by-cut : (f : ℕ → ℕ) (a m n whole : ℕ) → whole ≡ m + n → sum_by f (range_with_len a whole) ≡ sum_by f (range_with_len a m) + sum_by f (range_with_len (a + m) n)
sum_by-cut f a m n whole is = rw (is, range_with_len-cut a m n) (sum_by-append f (range_with_len a m) (range_with_len (a + m) n))

pub sum_by-between :
    (f : ℕ → ℕ) (low middle high : ℕ) → low ≤ middle → middle ≤ high
    → sum_by f (range_with_len low (high - low)) ≡ sum_by f (range_with_len low (middle - low)) + sum_by f (range_with_len middle (high - middle))
sum_by-between f low middle high up on =
    let next : low + (middle - low) ≡ middle = omega arith in
    rw next at (sum_by-cut f low (middle - low) (high - middle) (high - low) (omega arith))

pub sum_by-none : (f : ℕ → ℕ) (low high : ℕ) → ((z : ℕ) → low ≤ z → z < high → f z ≡ 0) → sum_by f (range_with_len low (high - low)) ≡ 0
sum_by-none f low high none =
    let n = high - low in
    let each : All (λ z. f z ≤ 0) (range_with_len low n) = λ k d in_range.
    let within : k < n = rw length-range_with_len at in_range in
    rw (get_or-range_with_len low n k d within) (omega (arith, none (low + k) (omega arith) (omega arith))) in
    omega (arith, sum_by-le f 0 (range_with_len low n) each)

pub sum_by-first : (f : ℕ → ℕ) (low high : ℕ) → low < high → sum_by f (range_with_len low (high - low)) ≡ f low + sum_by f (range_with_len (low + 1) (high - (low + 1)))
sum_by-first f low high up =
    let more : high - low ≡ suc (high - (low + 1)) = omega arith in
    rw more (sum_by-cons f low (range_with_len (low + 1) (high - (low + 1))))

-- their number by rows
pub covered_count-up_to :
    (extent : Rect) (picture : Picture) (y : ℕ)
    → covered_count (up_to y extent) picture ≡ sum_by (λ z. corners_between extent picture z extent.left extent.right) (range_with_len extent.bottom (y - extent.bottom))
unfolding covered_count
covered_count-up_to extent picture y = refl

-- more rows have no fewer strips
pub covered_count_up_to_grows : (extent : Rect) (picture : Picture) (y z : ℕ) → y ≤ z → covered_count (up_to y extent) picture ≤ covered_count (up_to z extent) picture
covered_count_up_to_grows extent picture y z up =
    let row_corners = λ (row : ℕ). corners_between extent picture row extent.left extent.right in
    let cut = sum_by-cut row_corners extent.bottom (y - extent.bottom) ((z - extent.bottom) - (y - extent.bottom)) (z - extent.bottom) (omega arith) in
    rw (covered_count-up_to extent picture y, covered_count-up_to extent picture z) (omega (arith, cut))

-- below the extent's bottom line there is nothing to stack
pub nothing_stacked : (extent : Rect) (picture : Picture) → AreStacked extent picture extent.bottom [] []
nothing_stacked extent picture =
    let none : extent.bottom - extent.bottom ≡ 0 = omega arith in
    record {
      laid = record { each = λ k d l. absurd (omega arith); whole = λ x y inside _. grind (arith, nat_tests); ordered = λ i j d l m. absurd (omega arith) };
      count = rw (covered_count-up_to extent picture extent.bottom, none) refl;
      first = λ _. refl;
      runs = λ above. absurd (omega arith);
      named = λ k d l. absurd (omega arith);
    }
