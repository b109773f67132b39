-- Places of a word: those before its lowest bit from a place on, and the one there.
use Rattle.std.proofs.Common.{◌≡◌, ℕ, ◌+◌, ◌-◌, ◌*◌, ◌/◌, ◌%◌, ◌^◌, ◌<◌, ◌≤◌, ◌==◌, Bool, true, false, not, List, slice_index, refl, sym, ap, ◌∙◌, arith}
use Rattle.std.specs.Int.{bit_not, w64, trailing_zeros}
use Rattle.std.proofs.lemmas.Nat.{shr_le}
use Rattle.std.proofs.lemmas.Nat.Bits.{bit_at-trailing_zeros}
use Rattle.mls_kinds.specs.KindSets.{has_bit}
use Rattle.mls_kinds.proofs.BitLemmas.{has_bit-not}
use Rattle.mls_checker.specs.MarkRuns.{IsWanted, wanted_bit}
use Rattle.mls_checker.specs.Maps.{has_place}
use Rattle.mls_checker.proofs.WordBits.{lowest-bit, no-more-bits, start-below, unshifted}

as-wanted : (has b : Bool) → wanted_bit has b ≡ true → b ≡ has
as-wanted true b is = is
as-wanted false true is = sym is
as-wanted false false is = refl

otherwise : (has b : Bool) → wanted_bit has b ≡ false → b ≡ not has
otherwise true b is = is
otherwise false true is = refl
otherwise false false is = sym is

pub wanted-no : (words : List ℕ) (place : ℕ) → slice_index words (place / 64) < 2 ^ 64 → IsWanted false words place (bit_not w64 (slice_index words (place / 64)))
wanted-no words place fits = record { fits = omega arith; bits = λ k below. has_bit-not w64 (slice_index words (place / 64)) k fits below }

-- a place of the same word by a bit of that
place-bit : (has : Bool) (words : List ℕ) (place word n : ℕ) → IsWanted has words place word → n / 64 ≡ place / 64 → wanted_bit has (has_place words n) ≡ has_bit word (n % 64)
place-bit has words place word n wanted same = ap (λ i. wanted_bit has (has_bit (slice_index words i) (n % 64))) same ∙ sym (wanted.bits (n % 64) (omega arith))

-- the rest of the word has none
pub rest-none : (has : Bool) (words : List ℕ) (place word n : ℕ) → IsWanted has words place word → word / 2 ^ (place % 64) ≡ 0 → place ≤ n → n < place / 64 * 64 + 64 → has_place words n ≡ not has
rest-none has words place word n wanted none on before =
    otherwise has (has_place words n) (place-bit has words place word n wanted (omega arith) ∙ no-more-bits word (place % 64) (n % 64) none (omega arith))

-- its lowest bit
pub rest-short : (has : Bool) (words : List ℕ) (place word zeros : ℕ) → IsWanted has words place word → 0 < word / 2 ^ (place % 64) → zeros ≡ trailing_zeros w64 (word / 2 ^ (place % 64)) → place % 64 + zeros < 64
rest-short has words place word zeros wanted some is = start-below word (place % 64) (place % 64 + zeros) wanted.fits some (ap (λ k. place % 64 + k) is)

pub rest-before : (has : Bool) (words : List ℕ) (place word zeros n : ℕ) → IsWanted has words place word → 0 < word / 2 ^ (place % 64) → zeros ≡ trailing_zeros w64 (word / 2 ^ (place % 64))
    → place ≤ n → n < place + zeros → has_place words n ≡ not has
rest-before has words place word zeros n wanted some is on before =
    let lowest = bit_at-trailing_zeros w64 (word / 2 ^ (place % 64)) some (omega (arith, wanted.fits, shr_le word (place % 64))) in
    let short = start-below word (place % 64) (place % 64 + zeros) wanted.fits some (ap (λ k. place % 64 + k) is) in
    let at : n % 64 - place % 64 < trailing_zeros w64 (word / 2 ^ (place % 64)) = omega (arith, is, short) in
    otherwise has (has_place words n) (place-bit has words place word n wanted (omega (arith, short)) ∙ unshifted word (place % 64) (n % 64) (omega (arith, short))
    ∙ ap (λ b. b == 1) (lowest.2 (n % 64 - place % 64) at))

pub rest-there : (has : Bool) (words : List ℕ) (place word zeros : ℕ) → IsWanted has words place word → 0 < word / 2 ^ (place % 64) → zeros ≡ trailing_zeros w64 (word / 2 ^ (place % 64))
    → has_place words (place + zeros) ≡ has
rest-there has words place word zeros wanted some is =
    let start = place % 64 + zeros in
    let is_start = ap (λ k. place % 64 + k) is in
    let short = start-below word (place % 64) start wanted.fits some is_start in
    let at : (place + zeros) % 64 ≡ start = omega (arith, short) in
    as-wanted has (has_place words (place + zeros)) (place-bit has words place word (place + zeros) wanted (omega (arith, short)) ∙ ap (has_bit word) at ∙ lowest-bit word (place % 64) start wanted.fits some is_start)
