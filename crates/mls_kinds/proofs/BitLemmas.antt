-- Sets as numbers of n bits, for any n: what a test that is written as bits holds, and when two such numbers are equal.
use mir.Val.{bits}
use Rattle.std.proofs.Common.{◌≡◌, ℕ, suc, zero, ◌+◌, ◌-◌, ◌*◌, ◌%◌, ◌^◌, ◌<◌, ◌≤◌, max, min, inl, inr, ◌==◌, Bool, true, false, not, ◌||◌, ◌&&◌, if◌then◌else◌, List, [], ◌∷◌, length, map, fold, refl, sym, ap, ◌∙◌, add-one, arith}
use Rattle.std.specs.Prelude.{bit_or, bit_and}
use Rattle.std.specs.Int.{Width, bit_at, bit_not}
use Rattle.std.specs.Int.RustNames.{count_ones}
use Rattle.std.specs.List.{filter, list_any, range_with_len}
use Rattle.std.specs.Simd.Lanes.{mask_l}
use Rattle.std.proofs.Math.Bool.{or-false, or_assoc, and-true}
use Rattle.std.proofs.Math.Nat.{pow-suc}
use Rattle.std.proofs.Math.Path.{fun_ext}
use Rattle.std.proofs.lemmas.Bool.{cases_lt, cases_eq, eq-eqb, ne_eqb}
use Rattle.std.proofs.lemmas.Bool.Decides.{nat_tests}
use Rattle.std.proofs.lemmas.List.{map-id}
use Rattle.std.proofs.lemmas.List.FromFn.{sum_by-map-range_with_len_more, length-map-range_with_len, get_or-map-range_with_len}
use Rattle.std.proofs.lemmas.List.Sums.{length-filter}
use Rattle.std.proofs.lemmas.Nat.{pow_pos, or_lt, and_le_l, one_shl, pow_below}
use Rattle.std.proofs.lemmas.Nat.Bits.{bit_at-lt, bit_at-zero, bit_at_above, bit_at_or, bit_at_and, bit_at_not, bit_at-pow_same, bit_at-pow_other, bit_at_cat_low, bit_at_cat_high, same_from_bits_below}
use Rattle.std.proofs.lemmas.Simd.{mask_l-lt, bit_mask_l, ones-mask_l}
use Rattle.mls_kinds.specs.KindSets.{has_bit, bits_where}

-- 1 where the test passes
abbrev pub bit : Bool → ℕ
bit b = if b then 1 else 0

bit-shifted : (b : Bool) (p r : ℕ) → r + (if b then p else 0) ≡ bit b * p + r
bit-shifted true p r = omega arith
bit-shifted false p r = omega arith

bit_fits : (b : Bool) (p r : ℕ) → r < p → bit b * p + r < p + p
bit_fits true p r small = omega arith
bit_fits false p r small = omega arith

bit-le : (b : Bool) (p : ℕ) → (if b then p else 0) ≤ p
bit-le true p = omega arith
bit-le false p = omega arith

bit_at-bit : (b : Bool) → bit_at (bit b) 0 ≡ bit b
bit_at-bit true = refl
bit_at-bit false = refl

bit-is_one : (b : Bool) → (bit b == 1) ≡ b
bit-is_one true = refl
bit-is_one false = refl

is_one-bit : (x : ℕ) → x < 2 → x ≡ bit (x == 1)
is_one-bit zero h = refl
is_one-bit (suc zero) h = refl
is_one-bit (suc (suc x)) h = absurd (omega arith)

is_one-max : (x y : ℕ) → x < 2 → y < 2 → (max x y == 1) ≡ (x == 1 || y == 1)
is_one-max x y x_bit y_bit = grind (arith, nat_tests)

is_one-min : (x y : ℕ) → x < 2 → y < 2 → (min x y == 1) ≡ (x == 1 && y == 1)
is_one-min x y x_bit y_bit = grind (arith, nat_tests)

is_one-not : (y : ℕ) → y < 2 → (1 - y == 1) ≡ not (y == 1)
is_one-not y y_bit = grind (arith, nat_tests)

-- ---- one more bit
pub bits_where_more : (test : ℕ → Bool) (n : ℕ) → bits_where test (n + 1) ≡ bits_where test n + (if test n then 2 ^ n else 0)
bits_where_more test n = simp map-id at (sum_by-map-range_with_len_more (λ k. if test k then 2 ^ k else 0) (λ k. k) 0 n n (omega arith))

pub bits_where-suc : (test : ℕ → Bool) (n : ℕ) → bits_where test (suc n) ≡ bit (test n) * 2 ^ n + bits_where test n
bits_where-suc test n = ap (bits_where test) (sym (add-one n)) ∙ bits_where_more test n ∙ bit-shifted (test n) (2 ^ n) (bits_where test n)

pub bits_where-lt : (test : ℕ → Bool) (n : ℕ) → bits_where test n < 2 ^ n
bits_where-lt test zero = omega arith
bits_where-lt test (suc n) = omega (arith, bit_fits (test n) (2 ^ n) (bits_where test n) (bits_where-lt test n), bits_where-suc test n, pow-suc 2 n)

-- where the test passes nothing from n on, more places give no more bits
pub bits_where_past : (test : ℕ → Bool) (n m : ℕ) → ((k : ℕ) → n ≤ k → test k ≡ false) → bits_where test (n + m) ≡ bits_where test n
bits_where_past test n zero none = let all : n + zero ≡ n = omega arith in ap (bits_where test) all
bits_where_past test n (suc m) none =
    let last : n + suc m ≡ n + m + 1 = omega arith in
    let no_bit = rw (none (n + m) (omega arith)) at (bits_where_more test (n + m)) in
    omega (arith, ap (bits_where test) last, no_bit, bits_where_past test n m none)

-- ---- what a number of n bits holds
bit_at-bits_where : (test : ℕ → Bool) (n k : ℕ) → k < n → bit_at (bits_where test n) k ≡ bit (test k)
bit_at-bits_where test zero k below = absurd (omega arith)
bit_at-bits_where test (suc n) k below =
    ap (λ bits. bit_at bits k) (bits_where-suc test n)
    ∙ elim (cases_lt k n) [
      | inl lower ↦ bit_at_cat_low (bit (test n)) n (bits_where test n) k lower ∙ bit_at-bits_where test n k lower
      | inr last ↦
          let there : k ≡ n = omega arith in
          let lowest : k - n ≡ 0 = omega arith in
          bit_at_cat_high (bit (test n)) n (bits_where test n) k (bits_where-lt test n) last ∙ ap (bit_at (bit (test n))) lowest ∙ bit_at-bit (test n)
          ∙ ap (λ i. bit (test i)) (sym there)
    ]

pub has_bit-bits_where : (test : ℕ → Bool) (n k : ℕ) → k < n → has_bit (bits_where test n) k ≡ test k
has_bit-bits_where test n k below = ap (λ b. b == 1) (bit_at-bits_where test n k below) ∙ bit-is_one (test k)

pub has_bit_above : (n set k : ℕ) → set < 2 ^ n → n ≤ k → has_bit set k ≡ false
has_bit_above n set k fits above = ap (λ b. b == 1) (bit_at_above set n k fits above)

pub bit-has_bit : (set k : ℕ) → bit_at set k ≡ bit (has_bit set k)
bit-has_bit set k = is_one-bit _ (bit_at-lt set k)

-- a number of n bits is the set of its bits
pub is_bits_where : (n set : ℕ) (test : ℕ → Bool) → set < 2 ^ n → ((k : ℕ) → k < n → has_bit set k ≡ test k) → set ≡ bits_where test n
is_bits_where n set test fits same =
    same_from_bits_below n set (bits_where test n) fits (bits_where-lt test n)
    (λ k below. bit-has_bit set k ∙ ap bit (same k below) ∙ sym (bit_at-bits_where test n k below))

pub bits_where_same : (n : ℕ) (test other : ℕ → Bool) → ((k : ℕ) → k < n → test k ≡ other k) → bits_where test n ≡ bits_where other n
bits_where_same n test other same = is_bits_where n (bits_where test n) other (bits_where-lt test n) (λ k below. has_bit-bits_where test n k below ∙ same k below)

-- ---- operations on numbers
pub has_bit-zero : (k : ℕ) → has_bit 0 k ≡ false
has_bit-zero k = ap (λ b. b == 1) (bit_at-zero k)

pub has_bit-pow : (k i : ℕ) → has_bit (2 ^ k) i ≡ (i == k)
has_bit-pow k i = elim (cases_eq i k) [
  | inl same ↦ rw same (ap (λ b. b == 1) (bit_at-pow_same k) ∙ sym (eq-eqb k k refl))
  | inr other ↦ ap (λ b. b == 1) (bit_at-pow_other k i other) ∙ sym (ne_eqb i k other)
]

pub has_bit-or : (a b k : ℕ) → has_bit (bit_or a b) k ≡ (has_bit a k || has_bit b k)
has_bit-or a b k = ap (λ b. b == 1) (bit_at_or a b k) ∙ is_one-max (bit_at a k) (bit_at b k) (bit_at-lt a k) (bit_at-lt b k)

pub has_bit-and : (a b k : ℕ) → has_bit (bit_and a b) k ≡ (has_bit a k && has_bit b k)
has_bit-and a b k = ap (λ b. b == 1) (bit_at_and a b k) ∙ is_one-min (bit_at a k) (bit_at b k) (bit_at-lt a k) (bit_at-lt b k)

pub has_bit-not : (w : Width) (set k : ℕ) → set < 2 ^ bits w → k < bits w → has_bit (bit_not w set) k ≡ not (has_bit set k)
has_bit-not w set k fits below = ap (λ b. b == 1) (bit_at_not w set k fits below) ∙ is_one-not (bit_at set k) (bit_at-lt set k)

pub bits_where_none : (n : ℕ) → 0 ≡ bits_where (λ k. false) n
bits_where_none n = is_bits_where n 0 (λ k. false) (pow_pos n) (λ k below. has_bit-zero k)

pub bits_where_one : (n k : ℕ) → k < n → 1 * 2 ^ k % 2 ^ n ≡ bits_where (λ i. i == k) n
bits_where_one n k below = one_shl k n below ∙ is_bits_where n _ (λ i. i == k) (pow_below k n below) (λ i _. has_bit-pow k i)

pub bits_where_or : (n a b : ℕ) → a < 2 ^ n → b < 2 ^ n → bit_or a b ≡ bits_where (λ k. has_bit a k || has_bit b k) n
bits_where_or n a b a_fits b_fits = is_bits_where n _ _ (or_lt n a b a_fits b_fits) (λ k below. has_bit-or a b k)

pub bits_where_and : (n a b : ℕ) → a < 2 ^ n → bit_and a b ≡ bits_where (λ k. has_bit a k && has_bit b k) n
bits_where_and n a b fits = is_bits_where n _ _ (omega (arith, and_le_l a b)) (λ k below. has_bit-and a b k)

-- ---- one test more, by a machine word of w bits
pub bits_where_more_yes : (w : ℕ) (test : ℕ → Bool) (n : ℕ) → n < w → test n ≡ true → bit_or (bits_where test n) (1 * 2 ^ n % 2 ^ w) ≡ bits_where test (n + 1)
bits_where_more_yes w test n within passes =
    let top : 2 ^ n < 2 ^ (n + 1) = pow_below n (n + 1) (omega arith) in
    ap (bit_or (bits_where test n)) (one_shl n w within)
    ∙ is_bits_where (n + 1) _ test (or_lt (n + 1) (bits_where test n) (2 ^ n) (omega (arith, bits_where-lt test n)) top)
    (λ k below. has_bit-or (bits_where test n) (2 ^ n) k ∙ ap (λ b. has_bit (bits_where test n) k || b) (has_bit-pow n k)
    ∙ elim (cases_lt k n) [
      | inl lower ↦ ap (λ b. has_bit (bits_where test n) k || b) (ne_eqb k n (λ same. omega arith)) ∙ or-false (has_bit (bits_where test n) k) ∙ has_bit-bits_where test n k lower
      | inr last ↦
          let there : k ≡ n = omega arith in
          let held : test k ≡ true = ap test there ∙ passes in
          rw (has_bit_above n (bits_where test n) k (bits_where-lt test n) last, eq-eqb k n there) (sym held)
    ])

pub bits_where_more_no : (test : ℕ → Bool) (n : ℕ) → test n ≡ false → bits_where test n ≡ bits_where test (n + 1)
bits_where_more_no test n fails = let no_bit = rw fails at (bits_where_more test n) in omega (arith, no_bit)

-- ---- gathering
-- the bits with one more
abbrev pub with_bit : ℕ → ℕ → ℕ → ℕ
with_bit n set k = bits_where (λ i. has_bit set i || i == k) n

pub with_bit_or : (n set k : ℕ) → set < 2 ^ n → k < n → bit_or set (1 * 2 ^ k % 2 ^ n) ≡ with_bit n set k
with_bit_or n set k fits below =
    ap (bit_or set) (one_shl k n below) ∙ is_bits_where n _ _ (or_lt n set (2 ^ k) fits (pow_below k n below)) (λ i _. has_bit-or set (2 ^ k) i ∙ ap (λ b. has_bit set i || b) (has_bit-pow k i))

with_bit-bits_where : (test : ℕ → Bool) (n k : ℕ) → with_bit n (bits_where test n) k ≡ bits_where (λ i. test i || i == k) n
with_bit-bits_where test n k = bits_where_same n _ _ (λ i below. ap (λ b. b || i == k) (has_bit-bits_where test n i below))

eq-turned : (a b : ℕ) → (a == b) ≡ (b == a)
eq-turned a b = grind (arith, nat_tests)

-- the bits of things, gathered one by one
pub fold-with_bit : {X : Type 0} (bit_of : X → ℕ) (test : ℕ → Bool) (n : ℕ) (things : List X)
    → fold (λ set thing. with_bit n set (bit_of thing)) (bits_where test n) things ≡ bits_where (λ k. test k || list_any (λ thing. bit_of thing == k) things) n
fold-with_bit bit_of test n [] = ap (λ t. bits_where t n) (fun_ext (λ k. sym (or-false (test k))))
fold-with_bit bit_of test n (thing ∷ things) =
    ap (λ set. fold (λ set thing. with_bit n set (bit_of thing)) set things) (with_bit-bits_where test n (bit_of thing))
    ∙ fold-with_bit bit_of (λ k. test k || k == bit_of thing) n things
    ∙ ap (λ t. bits_where t n) (fun_ext (λ k. ap (λ b. (test k || b) || list_any (λ thing. bit_of thing == k) things) (eq-turned k (bit_of thing)) ∙ or_assoc (test k) (bit_of thing == k) _))

-- ---- the places of the bits that are 1
same_mask : (n set : ℕ) → set < 2 ^ n → set ≡ mask_l (map (has_bit set) (range_with_len 0 n))
same_mask n set fits =
    let wide = ap (λ w. 2 ^ w) (length-map-range_with_len (has_bit set) 0 n) in
    let mask = mask_l (map (has_bit set) (range_with_len 0 n)) in
    same_from_bits_below n set mask fits (omega (arith, mask_l-lt (map (has_bit set) (range_with_len 0 n)), wide))
    (λ k below. bit-has_bit set k ∙ sym (bit_mask_l (map (has_bit set) (range_with_len 0 n)) k ∙ ap bit (get_or-map-range_with_len (has_bit set) 0 n k k false below (omega arith))))

pub count_ones-has_bit : (n set : ℕ) → set < 2 ^ n → count_ones set ≡ length (filter (has_bit set) (range_with_len 0 n))
count_ones-has_bit n set fits =
    ap count_ones (same_mask n set fits) ∙ ones-mask_l (has_bit set) (range_with_len 0 n) ∙ sym (length-filter (has_bit set) (range_with_len 0 n))

filter_same : (p q : ℕ → Bool) (a n : ℕ) → ((k : ℕ) → a ≤ k → k < a + n → p k ≡ q k) → filter p (range_with_len a n) ≡ filter q (range_with_len a n)
filter_same p q a zero same = refl
filter_same p q a (suc n) same =
    let rest = filter_same p q (a + 1) n (λ k lower upper. same k (omega arith) (omega arith)) in
    rw (same a (omega arith) (omega arith), rest) refl

pub filter_none : (p : ℕ → Bool) (a n : ℕ) → ((k : ℕ) → a ≤ k → k < a + n → p k ≡ false) → filter p (range_with_len a n) ≡ []
filter_none p a zero none = refl
filter_none p a (suc n) none = rw (none a (omega arith) (omega arith)) (filter_none p (a + 1) n (λ k lower upper. none k (omega arith) (omega arith)))

-- the first place that passes, and those that pass after it
pub filter_first : (p q : ℕ → Bool) (first a n : ℕ) → a ≤ first → first < a + n → p first ≡ true → ((k : ℕ) → k < first → p k ≡ false)
    → ((k : ℕ) → k < a + n → q k ≡ (p k && not (k == first))) → filter p (range_with_len a n) ≡ first ∷ filter q (range_with_len a n)
filter_first p q first a zero lower upper there none others = absurd (omega arith)
filter_first p q first a (suc n) lower upper there none others = elim (cases_eq a first) [
  | inl same ↦
      let passes : p a ≡ true = ap p same ∙ there in
      let left_out : q a ≡ false = others a (omega arith) ∙ rw (passes, eq-eqb a first same) refl in
      let rest = filter_same p q (a + 1) n (λ k above below. sym (others k (omega arith) ∙ ap (λ b. p k && not b) (ne_eqb k first (λ e. omega arith)) ∙ and-true (p k))) in
      rw (passes, left_out, rest) (ap (λ k. k ∷ filter q (range_with_len (a + 1) n)) same)
  | inr other ↦
      let fails : p a ≡ false = none a (omega arith) in
      let left_out : q a ≡ false = others a (omega arith) ∙ ap (λ b. b && not (a == first)) fails in
      rw (fails, left_out) (filter_first p q first (a + 1) n (omega arith) (omega arith) there none (λ k below. others k (omega arith)))
]
