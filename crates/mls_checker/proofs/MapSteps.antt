-- Maps that are widened.
use Rattle.std.proofs.Common.{◌≡◌, ℕ, ◌+◌, ◌-◌, ◌*◌, ◌<◌, ◌≤◌, inl, inr, Bool, false, ◌||◌, List, refl, sym, ap, ◌∙◌, arith}
use Rattle.std.specs.Cmp.{both_ways}
use Rattle.std.specs.List.{list_any, range_with_len}
use Rattle.std.proofs.Math.Bool.{or-false}
use Rattle.std.proofs.lemmas.Bool.{cases_lt, or_left, or_right, or_cases}
use Rattle.std.proofs.lemmas.List.Folds.{list_any_none}
use Rattle.std.proofs.lemmas.Nat.{mul-le}
use Rattle.mls_checker.specs.Maps.{has_ahead, has_place}
use Rattle.mls_checker.proofs.BandLists.{any-or}
use Rattle.mls_checker.proofs.ListTests.{below_finds, found_below, list_any_same_in_range}

-- ---- tests below a number
-- numbers below a + k are those below a, and k more than some of them
doubled : (g : ℕ → Bool) (a k : ℕ) → k ≤ a → (list_any g (range_with_len 0 a) || list_any (λ i. g (k + i)) (range_with_len 0 a)) ≡ list_any g (range_with_len 0 (a + k))
doubled g a k few =
    both_ways (list_any g (range_with_len 0 a) || list_any (λ i. g (k + i)) (range_with_len 0 a)) (list_any g (range_with_len 0 (a + k)))
    (λ some. elim (or_cases (list_any g (range_with_len 0 a)) (list_any (λ i. g (k + i)) (range_with_len 0 a)) some) [
      | inl low ↦ (let i = found_below g a low in below_finds g (a + k) i.0 (omega (arith, i.1)) i.2)
      | inr high ↦ (let i = found_below (λ i. g (k + i)) a high in below_finds g (a + k) (k + i.0) (omega (arith, i.1)) i.2)
    ])
    (λ some. let i = found_below g (a + k) some in
    elim (cases_lt i.0 a) [
      | inl low ↦ or_left (list_any g (range_with_len 0 a)) (list_any (λ i. g (k + i)) (range_with_len 0 a)) (below_finds g a i.0 low i.2)
      | inr high ↦ (let back : k + (i.0 - k) ≡ i.0 = omega (arith, few, high) in
          or_right (list_any g (range_with_len 0 a)) (list_any (λ i. g (k + i)) (range_with_len 0 a)) (below_finds (λ i. g (k + i)) a (i.0 - k) (omega (arith, i.1, few, high)) (ap g back ∙ i.2)))
    ])

-- ---- widening
ahead-more : (f : ℕ → Bool) (p k a n : ℕ) → has_ahead f p a (n + p * k) ≡ list_any (λ i. f (n + (k + i) * p)) (range_with_len 0 a)
ahead-more f p k a n =
    list_any_same_in_range (λ i. f (n + p * k + i * p)) (λ i. f (n + (k + i) * p)) 0 a
    (λ i above below. let sum : n + p * k + i * p ≡ n + (k + i) * p = omega arith in ap f sum)

-- a map that is a steps wide and gained itself k steps ahead is a + k steps wide
pub wider : (f new cur : ℕ → Bool) (p a k total : ℕ) → 1 ≤ a → k ≤ a
    → ((n : ℕ) → n + (a - 1) * p + 64 < total → cur n ≡ has_ahead f p a n)
    → ((n : ℕ) → n + p * k + 64 < total → new n ≡ (cur n || cur (n + p * k)))
    → (n : ℕ) → n + (a + k - 1) * p + 64 < total → new n ≡ has_ahead f p (a + k) n
wider f new cur p a k total some few before gained n can =
    let all : (a + k - 1) * p ≡ (a - 1) * p + p * k = (let split : a + k - 1 ≡ (a - 1) + k = omega arith in ap (λ m. m * p) split ∙ omega arith) in
    gained n (omega (arith, all, can))
    ∙ ap (λ b. b || cur (n + p * k)) (before n (omega (arith, all, can)))
    ∙ ap (λ b. has_ahead f p a n || b) (before (n + p * k) (omega (arith, all, can)) ∙ ahead-more f p k a n)
    ∙ doubled (λ i. f (n + i * p)) a k few

-- a map gains another one that is a steps wide, and that k steps ahead
pub widened-into : (old new f cur : ℕ → Bool) (p a k total : ℕ) → 1 ≤ a → k ≤ a
    → ((n : ℕ) → n + (a - 1) * p + 64 < total → cur n ≡ has_ahead f p a n)
    → ((n : ℕ) → n + p * k + 64 < total → new n ≡ (old n || (cur n || cur (n + p * k))))
    → (n : ℕ) → n + (a + k - 1) * p + 64 < total → new n ≡ (old n || has_ahead f p (a + k) n)
widened-into old new f cur p a k total some few wide gained n can =
    let all : (a + k - 1) * p ≡ (a - 1) * p + p * k = (let split : a + k - 1 ≡ (a - 1) + k = omega arith in ap (λ m. m * p) split ∙ omega arith) in
    gained n (omega (arith, all, can))
    ∙ ap (λ b. old n || b) (wider f (λ m. cur m || cur (m + p * k)) cur p a k total some few wide (λ m within. refl) n can)

-- one place ahead is the place itself
pub one-wide : (f : ℕ → Bool) (p n : ℕ) → f n ≡ has_ahead f p 1 n
one-wide f p n = let same : n ≡ n + 0 * p = omega arith in ap f same ∙ sym (or-false (f (n + 0 * p)))

-- no place ahead passes where none does
pub none-ahead : (f : ℕ → Bool) (p count n : ℕ) → ((m : ℕ) → f m ≡ false) → has_ahead f p count n ≡ false
none-ahead f p count n none = list_any_same_in_range (λ i. f (n + i * p)) (λ i. false) 0 count (λ i above below. none (n + i * p)) ∙ list_any_none (λ (i : ℕ). false) (range_with_len 0 count) (λ k d within. refl)

-- what a map gained from its copy
pub gained-copy : (map copy new : List ℕ) (p total total' : ℕ) → copy ≡ map → total' ≡ total
    → ((n : ℕ) → n + p + 64 < total → has_place new n ≡ (has_place map n || has_place copy (n + p)))
    → (n : ℕ) → n + p + 64 < total' → has_place new n ≡ (has_place map n || has_place map (n + p))
gained-copy map copy new p total total' same size gained n can =
    gained n (omega arith) ∙ ap (λ (m : List ℕ). has_place map n || has_place m (n + p)) same

-- ---- rows and blocks together
pub upright-within : (row d m n total : ℕ) → d ≤ m → n + m * (row + 1) + 64 < total → n + (d - 1) * row + 64 < total
upright-within row d m n total few within = omega (arith, within, mul-le (d - 1) row m row (omega arith) (omega arith))

-- blocks that are wide upward are added to rows, which are widened then
pub spread-joined : (level0 level1 level2 blocks0 : ℕ → Bool) (row d c m total n : ℕ) → d ≤ m → c ≤ m → d ≡ c
    → ((k : ℕ) → k + (c - 1) * row + 64 < total → level1 k ≡ (level0 k || has_ahead blocks0 row c k))
    → ((k : ℕ) → k + (d - 1) * 1 + 64 < total → level2 k ≡ has_ahead level1 1 d k) → n + m * (row + 1) + 64 < total
    → level2 n ≡ (has_ahead level0 1 d n || has_ahead (has_ahead blocks0 row c) 1 c n)
spread-joined level0 level1 level2 blocks0 row d c m total n few few' same joined wide within =
    let high = mul-le (c - 1) row m row (omega arith) (omega arith) in
    wide n (omega (arith, within))
    ∙ list_any_same_in_range (λ i. level1 (n + i * 1)) (λ i. level0 (n + i * 1) || has_ahead blocks0 row c (n + i * 1)) 0 d
    (λ i above below. joined (n + i * 1) (omega (arith, within, high)))
    ∙ any-or (λ i. level0 (n + i * 1)) (λ i. has_ahead blocks0 row c (n + i * 1)) (range_with_len 0 d)
    ∙ ap (λ k. has_ahead level0 1 d n || has_ahead (has_ahead blocks0 row c) 1 k n) same

-- and each widened by itself
pub spread-apart : (level0 level1 level2 blocks0 blocks1 : ℕ → Bool) (row d c m total n : ℕ) → d ≤ m → c ≤ m
    → ((k : ℕ) → k + (c - 1) * row + 64 < total → blocks1 k ≡ has_ahead blocks0 row c k)
    → ((k : ℕ) → k + (d - 1) * 1 + 64 < total → level1 k ≡ has_ahead level0 1 d k)
    → ((k : ℕ) → k + (c - 1) * 1 + 64 < total → level2 k ≡ (level1 k || has_ahead blocks1 1 c k)) → n + m * (row + 1) + 64 < total
    → level2 n ≡ (has_ahead level0 1 d n || has_ahead (has_ahead blocks0 row c) 1 c n)
spread-apart level0 level1 level2 blocks0 blocks1 row d c m total n few few' wide wide' joined within =
    let high = mul-le (c - 1) row m row (omega arith) (omega arith) in
    joined n (omega (arith, within)) ∙ ap (λ b. b || has_ahead blocks1 1 c n) (wide' n (omega (arith, within)))
    ∙ ap (λ b. has_ahead level0 1 d n || b)
    (list_any_same_in_range (λ i. blocks1 (n + i * 1)) (λ i. has_ahead blocks0 row c (n + i * 1)) 0 c (λ i above below. wide (n + i * 1) (omega (arith, within, high))))
