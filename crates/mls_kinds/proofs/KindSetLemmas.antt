-- Sets of kinds: what each operation on machine words makes, the laws of union and of what is left out, and the kinds in ascending order.
use Rattle.std.proofs.Common.{◌≡◌, ℕ, ◌*◌, ◌%◌, ◌^◌, ◌<◌, ◌≤◌, inl, inr, ◌==◌, Bool, true, false, not, ◌||◌, ◌&&◌, List, [], ◌∷◌, length, fold, refl, sym, ap, ◌∙◌, arith}
use Rattle.std.specs.Prelude.{bit_or, bit_and}
use Rattle.std.specs.Int.{w64, bit_not, trailing_zeros}
use Rattle.std.specs.List.{list_any}
use Rattle.std.specs.Int.RustNames.{count_ones}
use Rattle.std.proofs.lemmas.Bool.{cases_eq}
use Rattle.std.proofs.lemmas.Bool.Decides.{nat_tests}
use Rattle.std.proofs.lemmas.Nat.Bits.{bit_at-trailing_zeros}
use Rattle.mls_kinds.specs.KindSets.{has_bit, set_of, union, intersection, difference, members, with_kind}
use Rattle.mls_kinds.proofs.BitLemmas.{count_ones-has_bit, fold-with_bit, filter_first, filter_none, bits_where-lt, bits_where_none, bits_where_one, bits_where_or, bits_where_and, bits_where_same, has_bit-bits_where, has_bit-not, has_bit-zero, has_bit_above, is_bits_where}

-- ---- sets by tests
pub has_bit-set_of : (test : ℕ → Bool) (kind : ℕ) → kind < 64 → has_bit (set_of test) kind ≡ test kind
unfolding set_of
has_bit-set_of test kind below = has_bit-bits_where test 64 kind below

pub set_of-lt : (test : ℕ → Bool) → set_of test < 2 ^ 64
unfolding set_of
set_of-lt test = bits_where-lt test 64

-- a number of 64 bits is the set of its kinds
pub is_set_of : (set : ℕ) (test : ℕ → Bool) → set < 2 ^ 64 → ((kind : ℕ) → kind < 64 → has_bit set kind ≡ test kind) → set ≡ set_of test
unfolding set_of
is_set_of set test fits same = is_bits_where 64 set test fits same

pub set_of_same : (test other : ℕ → Bool) → ((kind : ℕ) → kind < 64 → test kind ≡ other kind) → set_of test ≡ set_of other
unfolding set_of
set_of_same test other same = bits_where_same 64 test other same

pub set_of_none : 0 ≡ set_of (λ kind. false)
unfolding set_of
set_of_none = bits_where_none 64

pub union-set_of : (test other : ℕ → Bool) → union (set_of test) (set_of other) ≡ set_of (λ kind. test kind || other kind)
unfolding union
union-set_of test other = set_of_same _ _ (λ kind h. rw (has_bit-set_of test kind h, has_bit-set_of other kind h))

pub intersection-set_of : (test other : ℕ → Bool) → intersection (set_of test) (set_of other) ≡ set_of (λ kind. test kind && other kind)
unfolding intersection
intersection-set_of test other = set_of_same _ _ (λ kind h. rw (has_bit-set_of test kind h, has_bit-set_of other kind h))

pub difference-set_of : (test other : ℕ → Bool) → difference (set_of test) (set_of other) ≡ set_of (λ kind. test kind && not (other kind))
unfolding difference
difference-set_of test other = set_of_same _ _ (λ kind h. rw (has_bit-set_of test kind h, has_bit-set_of other kind h))

pub insert_is : (set kind : ℕ) → union set (set_of (λ other. other == kind)) ≡ with_kind set kind
unfolding union
insert_is set kind = set_of_same _ _ (λ other h. ap (λ held. has_bit set other || held) (has_bit-set_of (λ other. other == kind) other h))

-- no set takes a kind from 64 on
pub insert_none : (set kind : ℕ) → 64 ≤ kind → union set 0 ≡ with_kind set kind
unfolding union set_of
insert_none set kind above = set_of_same _ _ (λ other below. ap (λ held. has_bit set other || held) (has_bit-zero other ∙ not_among other below))
  where
    not_among : (other : ℕ) → other < 64 → false ≡ (other == kind)
    not_among other below = grind (arith, nat_tests)

-- the kinds of things, gathered one by one
pub fold-with_kind : {X : Type 0} (kind_of : X → ℕ) (test : ℕ → Bool) (things : List X)
    → fold (λ set thing. with_kind set (kind_of thing)) (set_of test) things ≡ set_of (λ kind. test kind || list_any (λ thing. kind_of thing == kind) things)
unfolding set_of
fold-with_kind kind_of test things = fold-with_bit kind_of test 64 things

-- ---- laws
pub union_none : (set : ℕ) → set < 2 ^ 64 → union 0 set ≡ set
unfolding union
union_none set fits = sym (is_set_of set _ fits (λ kind h. rw (has_bit-zero kind)))

or-assoc : (x y z : Bool) → ((x || y) || z) ≡ (x || (y || z))
or-assoc true y z = refl
or-assoc false y z = refl

pub union_assoc : (a b c : ℕ) → union (union a b) c ≡ union a (union b c)
unfolding union
union_assoc a b c = set_of_same _ _ (λ kind h. rw (has_bit-set_of _ kind h, has_bit-set_of _ kind h) (or-assoc (has_bit a kind) (has_bit b kind) (has_bit c kind)))

left_out_thrice : (x y : Bool) → (x && not (x && not (x && not y))) ≡ (x && not y)
left_out_thrice true true = refl
left_out_thrice true false = refl
left_out_thrice false y = refl

pub difference_thrice : (all set : ℕ) → difference all (difference all (difference all set)) ≡ difference all set
unfolding difference
difference_thrice all set = set_of_same _ _ (λ kind h. rw (has_bit-set_of _ kind h, has_bit-set_of _ kind h) (left_out_thrice (has_bit all kind) (has_bit set kind)))

-- ---- operations on machine words
pub single_is : (kind : ℕ) → kind < 64 → 1 * 2 ^ kind % 2 ^ 64 ≡ set_of (λ other. other == kind)
unfolding set_of
single_is kind below = bits_where_one 64 kind below

pub union_is : (a b : ℕ) → a < 2 ^ 64 → b < 2 ^ 64 → bit_or a b ≡ union a b
unfolding union set_of
union_is a b a_fits b_fits = bits_where_or 64 a b a_fits b_fits

pub intersection_is : (a b : ℕ) → a < 2 ^ 64 → bit_and a b ≡ intersection a b
unfolding intersection set_of
intersection_is a b fits = bits_where_and 64 a b fits

pub difference_is : (a b : ℕ) → a < 2 ^ 64 → b < 2 ^ 64 → bit_and a (bit_not w64 b) ≡ difference a b
unfolding intersection difference
difference_is a b a_fits b_fits =
    intersection_is a _ a_fits ∙ (set_of_same _ _ (λ kind h. ap (λ held. has_bit a kind && held) (has_bit-not w64 b kind b_fits h)))

pub has_bit_from_64 : (set kind : ℕ) → set < 2 ^ 64 → 64 ≤ kind → has_bit set kind ≡ false
has_bit_from_64 set kind fits above = has_bit_above 64 set kind fits above

-- ---- the kinds in ascending order
pub members_none : members 0 ≡ []
unfolding members
members_none = filter_none (has_bit 0) 0 64 (λ kind _ _. has_bit-zero kind)

pub members_first : (set kind : ℕ) → kind < 64 → has_bit set kind ≡ true → ((other : ℕ) → other < kind → has_bit set other ≡ false)
    → members set ≡ kind ∷ members (difference set (set_of (λ other. other == kind)))
unfolding members difference
members_first set kind below there none =
    filter_first (has_bit set) (has_bit (difference set (set_of (λ other. other == kind)))) kind 0 64 (omega arith) below there none
    (λ other lower. has_bit-set_of _ other lower ∙ ap (λ held. has_bit set other && not held) (has_bit-set_of (λ other. other == kind) other lower))

pub lowest_is : (set : ℕ) → 0 < set → set < 2 ^ 64
    → (trailing_zeros w64 set < 64) × (members set ≡ trailing_zeros w64 set ∷ members (difference set (set_of (λ other. other == trailing_zeros w64 set))))
lowest_is set some fits =
    let (below, there, none) = bit_at-trailing_zeros w64 set some fits in
    (below, members_first set (trailing_zeros w64 set) below (ap (λ b. b == 1) there) (λ other lower. ap (λ b. b == 1) (none other lower)))

pub none_from_members : (set : ℕ) → set < 2 ^ 64 → members set ≡ [] → set ≡ 0
none_from_members set fits none = elim (cases_eq set 0) [
  | inl same ↦ same
  | inr other ↦ let lowest = (lowest_is set (omega arith) fits).1 in cc
]

pub members_none_at : (set : ℕ) → set ≡ 0 → members set ≡ []
members_none_at set none = ap members none ∙ members_none

pub len_is : (set : ℕ) → set < 2 ^ 64 → count_ones set ≡ length (members set)
unfolding members
len_is set fits = count_ones-has_bit 64 set fits

pub ruleset empty_is = (none_from_members, members_none_at)

pub ruleset first_is = (lowest_is, members_none_at)
