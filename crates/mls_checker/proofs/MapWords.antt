-- Lists of words that gain the shifted words of another list.
use Rattle.std.proofs.Common.{◌≡◌, ℕ, ◌+◌, ◌-◌, ◌*◌, ◌/◌, ◌%◌, ◌<◌, ◌≤◌, ◌^◌, inl, inr, ◌==◌, Bool, false, not, ◌||◌, ◌&&◌, List, length, set, refl, sym, ap, ◌∙◌, arith}
use Rattle.std.specs.Prelude.{bit_and, bit_or, nat_lt, nat_le, slice_index}
use Rattle.std.specs.Int.{bit_at, bit_not, w64}
use Rattle.std.proofs.Math.Bool.{or-false}
use Rattle.std.proofs.lemmas.Bool.{cases_eq, cases_lt, lt-ltb, le-leb, lt-leb}
use Rattle.std.proofs.lemmas.Nat.{pow_pos, shr_split}
use Rattle.std.proofs.lemmas.Nat.Bits.{bit_at_cat_low, bit_at_cat_high, bit_at-zero}
use Rattle.mls_kinds.specs.KindSets.{has_bit}
use Rattle.mls_kinds.proofs.BitLemmas.{has_bit-and, has_bit-not, has_bit-or, has_bit_above}
use Rattle.mls_checker.specs.Grids.{has_column}
use Rattle.mls_checker.specs.Maps.{has_place}
use Rattle.mls_checker.proofs.WordBits.{shifted-bit}
use Rattle.mls_checker.proofs.WordRows.{below-here, below-there, gained, set-here, set-there}

-- ---- bits of a word that is shifted to higher bits
low-bits : (n k : ℕ) → k < 64 → has_bit (n % 2 ^ 64) k ≡ has_bit n k
low-bits n k below = ap (λ b. b == 1) (sym (bit_at_cat_low (n / 2 ^ 64) 64 (n % 2 ^ 64) k below) ∙ ap (λ m. bit_at m k) (shr_split n 64))

raised-high : (word s k : ℕ) → k < 64 → s ≤ k → has_bit (word * 2 ^ s % 2 ^ 64) k ≡ has_bit word (k - s)
raised-high word s k below above =
    let none : word * 2 ^ s + 0 ≡ word * 2 ^ s = omega arith in
    low-bits (word * 2 ^ s) k below ∙ ap (λ n. has_bit n k) (sym none) ∙ ap (λ b. b == 1) (bit_at_cat_high word s 0 k (omega (arith, pow_pos s)) above)

raised-low : (word s k : ℕ) → k < 64 → k < s → has_bit (word * 2 ^ s % 2 ^ 64) k ≡ false
raised-low word s k below under =
    let none : word * 2 ^ s + 0 ≡ word * 2 ^ s = omega arith in
    low-bits (word * 2 ^ s) k below ∙ ap (λ n. has_bit n k) (sym none) ∙ ap (λ b. b == 1) (bit_at_cat_low word s 0 k under ∙ bit_at-zero k)

-- ---- a place by its word and its bit
pub place-at : (words : List ℕ) (n row k : ℕ) → n ≡ 64 * row + k → k < 64 → has_place words n ≡ has_column words row k
place-at words n row k is below =
    let high : n / 64 ≡ row = omega arith in
    let low : n % 64 ≡ k = omega arith in
    rw (high, low) refl

-- ---- words that begin in the middle of a word
-- a word that is raised by one, and then by the rest of its width but for s
raised-twice : (word s k : ℕ) → s < 64 → k < 64 → has_bit (word * 2 ^ 1 % 2 ^ 64 * 2 ^ (64 - 1 - s) % 2 ^ 64) k ≡ (nat_le (64 - s) k && has_bit word (k - (64 - s)))
raised-twice word s k few below = elim (cases_lt k (64 - 1 - s)) [
  | inl low ↦ raised-low (word * 2 ^ 1 % 2 ^ 64) (64 - 1 - s) k below low ∙ sym (ap (λ b. b && has_bit word (k - (64 - s))) (lt-leb (64 - s) k (omega arith)))
  | inr high ↦ raised-high (word * 2 ^ 1 % 2 ^ 64) (64 - 1 - s) k below high ∙ elim (cases_lt (k - (64 - 1 - s)) 1) [
    | inl first ↦ raised-low word 1 (k - (64 - 1 - s)) (omega arith) first ∙ sym (ap (λ b. b && has_bit word (k - (64 - s))) (lt-leb (64 - s) k (omega arith)))
    | inr later ↦
        let same : k - (64 - 1 - s) - 1 ≡ k - (64 - s) = omega arith in
        raised-high word 1 (k - (64 - 1 - s)) (omega arith) later ∙ ap (λ i. has_bit word i) same
        ∙ sym (ap (λ b. b && has_bit word (k - (64 - s))) (le-leb (64 - s) k (omega arith)))
  ]
]

-- the bits of a word from s on, and then those of the next one
pub joined-low : (word next s k : ℕ) → s < 64 → s + k < 64
    → has_bit (bit_or (word / 2 ^ s) (next * 2 ^ 1 % 2 ^ 64 * 2 ^ (64 - 1 - s) % 2 ^ 64)) k ≡ has_bit word (s + k)
joined-low word next s k few low =
    has_bit-or (word / 2 ^ s) (next * 2 ^ 1 % 2 ^ 64 * 2 ^ (64 - 1 - s) % 2 ^ 64) k
    ∙ ap (λ b. has_bit (word / 2 ^ s) k || b) (raised-twice next s k few (omega arith) ∙ ap (λ b. b && has_bit next (k - (64 - s))) (lt-leb (64 - s) k (omega arith)))
    ∙ or-false (has_bit (word / 2 ^ s) k) ∙ shifted-bit word s k

pub joined-high : (word next s k : ℕ) → s < 64 → k < 64 → 64 ≤ s + k → word < 2 ^ 64
    → has_bit (bit_or (word / 2 ^ s) (next * 2 ^ 1 % 2 ^ 64 * 2 ^ (64 - 1 - s) % 2 ^ 64)) k ≡ has_bit next (s + k - 64)
joined-high word next s k few below high fits =
    let there : k - (64 - s) ≡ s + k - 64 = omega arith in
    has_bit-or (word / 2 ^ s) (next * 2 ^ 1 % 2 ^ 64 * 2 ^ (64 - 1 - s) % 2 ^ 64) k
    ∙ ap (λ b. b || has_bit (next * 2 ^ 1 % 2 ^ 64 * 2 ^ (64 - 1 - s) % 2 ^ 64) k) (shifted-bit word s k ∙ has_bit_above 64 word (s + k) fits high)
    ∙ raised-twice next s k few below ∙ ap (λ b. b && has_bit next (k - (64 - s))) (le-leb (64 - s) k (omega arith)) ∙ ap (has_bit next) there

-- a word that begins so many bits after a word, before the next one
read-on : (held : ℕ → Bool) (word first next s k : ℕ) → ((j : ℕ) → s + j < 64 → has_bit word j ≡ has_bit first (s + j))
    → ((j : ℕ) → j < 64 → 64 ≤ s + j → has_bit word j ≡ has_bit next (s + j - 64))
    → ((j : ℕ) → j < 64 → has_bit first j ≡ held j) → ((j : ℕ) → j < 64 → has_bit next j ≡ held (64 + j)) → s < 64 → k < 64 → has_bit word k ≡ held (s + k)
read-on held word first next s k low high here there few below = elim (cases_lt (s + k) 64) [
  | inl before ↦ low k before ∙ here (s + k) before
  | inr after ↦
      let same : 64 + (s + k - 64) ≡ s + k = omega arith in
      high k below after ∙ there (s + k - 64) (omega arith) ∙ ap held same
]

-- the bits of a word and the next one are the places from those of the word on
pub here-at : (map : List ℕ) (row j : ℕ) → j < 64 → has_column map row j ≡ has_place map (64 * row + j)
here-at map row j below = sym (place-at map (64 * row + j) row j refl below)

next-at : (map : List ℕ) (row j : ℕ) → j < 64 → has_column map (row + 1) j ≡ has_place map (64 * row + (64 + j))
next-at map row j below = sym (place-at map (64 * row + (64 + j)) (row + 1) j (omega arith) below)

-- a word that begins so many places ahead of those of a row
pub read-ahead : (map : List ℕ) (word places row k : ℕ)
    → ((j : ℕ) → places % 64 + j < 64 → has_bit word j ≡ has_column map (row + places / 64) (places % 64 + j))
    → ((j : ℕ) → j < 64 → 64 ≤ places % 64 + j → has_bit word j ≡ has_column map (row + places / 64 + 1) (places % 64 + j - 64))
    → k < 64 → has_bit word k ≡ has_place map (64 * row + k + places)
read-ahead map word places row k low high below =
    let first = row + places / 64 in
    let there : 64 * first + (places % 64 + k) ≡ 64 * row + k + places = omega arith in
    read-on (λ j. has_place map (64 * first + j)) word (slice_index map first) (slice_index map (first + 1)) (places % 64) k low high (here-at map first) (next-at map first) (omega arith) below
    ∙ ap (has_place map) there

-- a word of the places ahead that two maps have, where both begin at the same bit
pub read-both-ahead : (one other : List ℕ) (word first next p q row k : ℕ) → p % 64 ≡ q % 64
    → ((j : ℕ) → has_bit first j ≡ (has_column one (row + p / 64) j && has_column other (row + q / 64) j))
    → ((j : ℕ) → has_bit next j ≡ (has_column one (row + p / 64 + 1) j && has_column other (row + q / 64 + 1) j))
    → ((j : ℕ) → p % 64 + j < 64 → has_bit word j ≡ has_bit first (p % 64 + j)) → ((j : ℕ) → j < 64 → 64 ≤ p % 64 + j → has_bit word j ≡ has_bit next (p % 64 + j - 64))
    → k < 64 → has_bit word k ≡ (has_place one (64 * row + k + p) && has_place other (64 * row + k + q))
read-both-ahead one other word first next p q row k same is is' low high below =
    let a = row + p / 64 in
    let b = row + q / 64 in
    let there : 64 * a + (p % 64 + k) ≡ 64 * row + k + p = omega arith in
    let there' : 64 * b + (p % 64 + k) ≡ 64 * row + k + q = omega (arith, same) in
    read-on (λ j. has_place one (64 * a + j) && has_place other (64 * b + j)) word first next (p % 64) k low high
    (λ j few. is j ∙ ap (λ t. t && has_column other b j) (here-at one a j few) ∙ ap (λ t. has_place one (64 * a + j) && t) (here-at other b j few))
    (λ j few. is' j ∙ ap (λ t. t && has_column other (b + 1) j) (next-at one a j few) ∙ ap (λ t. has_place one (64 * a + (64 + j)) && t) (next-at other b j few))
    (omega arith) below
    ∙ ap (λ n. has_place one n && has_place other (64 * b + (p % 64 + k))) there ∙ ap (λ n. has_place one (64 * row + k + p) && has_place other n) there'

-- a word whole words ahead of those of a row
pub read-aligned : (map : List ℕ) (places row k : ℕ) → places % 64 ≡ 0 → k < 64 → has_column map (row + places / 64) k ≡ has_place map (64 * row + k + places)
read-aligned map places row k aligned below = sym (place-at map (64 * row + k + places) (row + places / 64) k (omega (arith, aligned)) below)

-- the bits of words that are joined, and those that two words have
pub bits-of-either : (one other k : ℕ) (here here' : Bool) → has_bit one k ≡ here → has_bit other k ≡ here' → has_bit (bit_or one other) k ≡ (here || here')
bits-of-either one other k here here' is is' = has_bit-or one other k ∙ ap (λ b. b || has_bit other k) is ∙ ap (λ b. here || b) is'

pub bits-of-both : (one other k : ℕ) (here here' : Bool) → has_bit one k ≡ here → has_bit other k ≡ here' → has_bit (bit_and one other) k ≡ (here && here')
bits-of-both one other k here here' is is' = has_bit-and one other k ∙ ap (λ b. b && has_bit other k) is ∙ ap (λ b. here && b) is'

-- what was gained row by row, at a place of one of the rows
pub all-gained : (old new more : ℕ → Bool) (rows n : ℕ) → new n ≡ (old n || (nat_lt (n / 64) rows && more (64 * (n / 64) + n % 64))) → n / 64 < rows → new n ≡ (old n || more n)
all-gained old new more rows n gained within =
    let there : 64 * (n / 64) + n % 64 ≡ n = omega arith in
    gained ∙ ap (λ b. old n || (b && more (64 * (n / 64) + n % 64))) (lt-ltb (n / 64) rows within) ∙ ap (λ m. old n || more m) there

-- ---- one row more
-- a row gained the columns of a word
pub gained-row : (words : List ℕ) (row v columns r k : ℕ) → row < length words → r ≡ row → v ≡ bit_or (slice_index words row) columns
    → has_column (set words row v) r k ≡ (has_column words r k || has_bit columns k)
gained-row words row v columns r k within same is =
    set-here words row v r k within same ∙ ap (λ n. has_bit n k) is ∙ has_bit-or (slice_index words row) columns k ∙ ap (λ i. has_column words i k || has_bit columns k) (sym same)

-- rows below this one gained something; this one gained it too
pub one-more-on : (old words : List ℕ) (row v columns r k : ℕ) (more : Bool) → row < length words → v ≡ bit_or (slice_index words row) columns
    → (r ≡ row → has_bit columns k ≡ more)
    → has_column words r k ≡ (has_column old r k || (nat_lt r row && more)) → has_column (set words row v) r k ≡ (has_column old r k || (nat_lt r (row + 1) && more))
one-more-on old words row v columns r k more within is gives before = elim (cases_eq r row) [
  | inl same ↦
      let tests = below-here row r same in
      gained-row words row v columns r k within same is ∙ ap (λ b. has_column words r k || b) (gives same)
      ∙ ap (λ b. b || more) before ∙ gained (has_column old r k) (nat_lt r row) (nat_lt r (row + 1)) more tests.0 tests.1
  | inr other ↦ set-there words row v r k other ∙ before ∙ ap (λ t. has_column old r k || (t && more)) (below-there row r other)
]

-- a row more has the columns that it hadn't
pub inverted-here : (old words : List ℕ) (row v r k : ℕ) → row < length words → r < row + 1 → k < 64 → v ≡ bit_not w64 (slice_index words row) → slice_index words row < 2 ^ 64
    → (row ≤ r → has_column words r k ≡ has_column old r k) → (r < row → has_column words r k ≡ not (has_column old r k))
    → has_column (set words row v) r k ≡ not (has_column old r k)
inverted-here old words row v r k within less below is fits rest done = elim (cases_eq r row) [
  | inl same ↦ set-here words row v r k within same ∙ ap (λ n. has_bit n k) is ∙ has_bit-not w64 (slice_index words row) k fits below
      ∙ ap (λ i. not (has_column words i k)) (sym same) ∙ ap not (rest (omega (arith, same)))
  | inr other ↦ set-there words row v r k other ∙ done (omega (arith, other))
]

-- and the rows after it have theirs still
pub kept-there : (old words : List ℕ) (row v r k : ℕ) → row + 1 ≤ r → has_column words r k ≡ has_column old r k → has_column (set words row v) r k ≡ has_column old r k
kept-there old words row v r k after before = set-there words row v r k (λ same. omega (arith, same)) ∙ before
