-- Sets of kinds as numbers: kind k is in a set where the number's bit k is 1.
use Rattle.std.specs.Prelude.{ℕ, ◌==◌, ◌^◌, Bool, not, ◌||◌, ◌&&◌, if◌then◌else◌, List}
use Rattle.std.specs.Int.{bit_at}
use Rattle.std.specs.List.{filter, range_with_len, sum_by}

-- whether the kind is in the set
abbrev pub has_bit : ℕ → ℕ → Bool
has_bit set kind = bit_at set kind == 1

-- the number whose bit k is 1 exactly where the test passes k, for k below n
abbrev pub bits_where : (ℕ → Bool) → ℕ → ℕ
bits_where test n = sum_by (λ k. if test k then 2 ^ k else 0) (range_with_len 0 n)

-- the kinds below 64 that pass the test
unfoldable pub set_of : (ℕ → Bool) → ℕ
set_of test = bits_where test 64

-- the kinds of either set
unfoldable pub union : ℕ → ℕ → ℕ
union set other = set_of (λ kind. has_bit set kind || has_bit other kind)

-- the kinds of both sets
unfoldable pub intersection : ℕ → ℕ → ℕ
intersection set other = set_of (λ kind. has_bit set kind && has_bit other kind)

-- the kinds of the first set that aren't in the other
unfoldable pub difference : ℕ → ℕ → ℕ
difference set other = set_of (λ kind. has_bit set kind && not (has_bit other kind))

-- the set with one more kind
abbrev pub with_kind : ℕ → ℕ → ℕ
with_kind set kind = set_of (λ other. has_bit set other || other == kind)

-- the kinds in a set, in ascending order
unfoldable pub members : ℕ → List ℕ
members set = filter (has_bit set) (range_with_len 0 64)
