-- Sets of rules: what each operation on machine words makes, and the numbers of the rules in rising order.
use Rattle.std.proofs.Common.{◌≡◌, ℕ, zero, suc, ◌+◌, ◌-◌, ◌*◌, ◌%◌, ◌^◌, ◌<◌, ◌≤◌, ◌==◌, Bool, true, false, not, ◌||◌, ◌&&◌, cond, List, [], ◌∷◌, length, map, refl, sym, ap, ◌∙◌, arith}
use Rattle.std.specs.Prelude.{bit_or, bit_and}
use Rattle.std.specs.Int.{w128, bit_not, trailing_zeros}
use Rattle.std.specs.Int.RustNames.{count_ones}
use Rattle.std.specs.List.{filter, range_with_len}
use Rattle.std.proofs.lemmas.List.{length-map}
use Rattle.std.proofs.lemmas.Nat.{one_shl, pow_below}
use Rattle.std.proofs.lemmas.Nat.Bits.{bit_at-trailing_zeros}
use Rattle.mls_kinds.specs.KindSets.{bits_where, has_bit}
use Rattle.mls_kinds.proofs.BitLemmas.{bits_where-lt, bits_where_and, bits_where_more_yes, bits_where_or, bits_where_same, count_ones-has_bit, filter_first, filter_none, has_bit-bits_where, has_bit-not, has_bit-pow, has_bit-zero, with_bit_or}
use Rattle.mls_edgerule.specs.RuleSets.{rules_in, union, with_rule, without_rule}

-- ---- operations on machine words
pub with_rule_is : (set n : ℕ) → set < 2 ^ 128 → 1 ≤ n → n ≤ 128 → bit_or set (1 * 2 ^ (n - 1) % 2 ^ 128) ≡ with_rule set n
unfolding with_rule
with_rule_is set n fits first last = with_bit_or 128 set (n - 1) fits (omega arith)

pub union_is : (set other : ℕ) → set < 2 ^ 128 → other < 2 ^ 128 → bit_or set other ≡ union set other
unfolding union
union_is set other fits fits' = bits_where_or 128 set other fits fits'

pub without_rule_is : (set n : ℕ) → set < 2 ^ 128 → 1 ≤ n → n ≤ 128 → bit_and set (bit_not w128 (1 * 2 ^ (n - 1) % 2 ^ 128)) ≡ without_rule set n
unfolding without_rule
without_rule_is set n fits first last =
    let below : n - 1 < 128 = omega arith in
    ap (λ bit. bit_and set (bit_not w128 bit)) (one_shl (n - 1) 128 below) ∙ bits_where_and 128 set (bit_not w128 (2 ^ (n - 1))) fits
    ∙ bits_where_same 128 _ _ (λ k within. ap (λ b. has_bit set k && b) (has_bit-not w128 (2 ^ (n - 1)) k (pow_below (n - 1) 128 below) within ∙ ap not (has_bit-pow (n - 1) k)))

-- ---- sets by tests
-- the next rule of those that pass a test
pub with_rule-bits_where : (test : ℕ → Bool) (n : ℕ) → n < 128 → test n ≡ true → with_rule (bits_where test n) (n + 1) ≡ bits_where test (n + 1)
with_rule-bits_where test n below passes =
    let fits : bits_where test n < 2 ^ 128 = omega (arith, bits_where-lt test n, pow_below n 128 below) in
    let here : n + 1 - 1 ≡ n = omega arith in
    sym (with_rule_is (bits_where test n) (n + 1) fits (omega arith) (omega arith)) ∙ ap (λ k. bit_or (bits_where test n) (1 * 2 ^ k % 2 ^ 128)) here
    ∙ bits_where_more_yes 128 test n below passes

-- the rules that pass one of two tests
pub union-bits_where : (test other : ℕ → Bool) → union (bits_where test 128) (bits_where other 128) ≡ bits_where (λ k. test k || other k) 128
unfolding union
union-bits_where test other =
    bits_where_same 128 (λ k. has_bit (bits_where test 128) k || has_bit (bits_where other 128) k) (λ k. test k || other k)
    (λ k below. rw (has_bit-bits_where test 128 k below, has_bit-bits_where other 128 k below) refl)

-- ---- the numbers of the rules in rising order
-- the number of a rule is one more than that of its bit
cond_moved : (test other : Bool) (k : ℕ) (xs ys : List ℕ) → test ≡ other → xs ≡ map (λ i. i + 1) ys → cond test ((k + 1) ∷ xs) xs ≡ map (λ i. i + 1) (cond other (k ∷ ys) ys)
cond_moved true true k xs ys same rest = ap (λ l. (k + 1) ∷ l) rest
cond_moved false false k xs ys same rest = rest
cond_moved true false k xs ys same rest = cc
cond_moved false true k xs ys same rest = cc

filter_moved : (p : ℕ → Bool) (a n : ℕ) → filter (λ k. p (k - 1)) (range_with_len (a + 1) n) ≡ map (λ k. k + 1) (filter p (range_with_len a n))
filter_moved p a zero = refl
filter_moved p a (suc n) =
    let here : a + 1 - 1 ≡ a = omega arith in
    cond_moved (p (a + 1 - 1)) (p a) a _ _ (ap p here) (filter_moved p (a + 1) n)

rules_in-bits : (set : ℕ) → rules_in set ≡ map (λ k. k + 1) (filter (has_bit set) (range_with_len 0 128))
unfolding rules_in
rules_in-bits set = filter_moved (has_bit set) 0 128

pub len_is : (set : ℕ) → set < 2 ^ 128 → count_ones set ≡ length (rules_in set)
len_is set fits = count_ones-has_bit 128 set fits ∙ sym (ap length (rules_in-bits set) ∙ length-map (filter (has_bit set) (range_with_len 0 128)) (λ k. k + 1))

no_rules : rules_in 0 ≡ []
no_rules = rules_in-bits 0 ∙ ap (map (λ k. k + 1)) (filter_none (has_bit 0) 0 128 (λ k _ _. has_bit-zero k))

pub no_rules_at : (set : ℕ) → set ≡ 0 → rules_in set ≡ []
no_rules_at set none = ap rules_in none ∙ no_rules

rules_first : (set k : ℕ) → k < 128 → has_bit set k ≡ true → ((other : ℕ) → other < k → has_bit set other ≡ false) → rules_in set ≡ (k + 1) ∷ rules_in (without_rule set (k + 1))
unfolding without_rule
rules_first set k below there none =
    let here : k + 1 - 1 ≡ k = omega arith in
    rules_in-bits set
    ∙ ap (map (λ i. i + 1)) (filter_first (has_bit set) (has_bit (without_rule set (k + 1))) k 0 128 (omega arith) below there none
    (λ other lower. has_bit-bits_where (λ i. has_bit set i && not (i == k + 1 - 1)) 128 other lower ∙ ap (λ n. has_bit set other && not (other == n)) here))
    ∙ ap (λ rest. (k + 1) ∷ rest) (sym (rules_in-bits (without_rule set (k + 1))))

pub lowest_is : (set : ℕ) → 0 < set → set < 2 ^ 128
    → (trailing_zeros w128 set < 128) × (rules_in set ≡ (trailing_zeros w128 set + 1) ∷ rules_in (without_rule set (trailing_zeros w128 set + 1)))
lowest_is set some fits =
    let (below, there, none) = bit_at-trailing_zeros w128 set some fits in
    (below, rules_first set (trailing_zeros w128 set) below (ap (λ b. b == 1) there) (λ other lower. ap (λ b. b == 1) (none other lower)))

pub none_from_rules : (set : ℕ) → set < 2 ^ 128 → rules_in set ≡ [] → set ≡ 0
none_from_rules zero fits none = refl
none_from_rules (suc bits) fits none = let lowest = (lowest_is (suc bits) (omega arith) fits).1 in cc

pub ruleset empty_is = (none_from_rules, no_rules_at)

pub ruleset first_is = (lowest_is, no_rules_at)
