-- A number of a command is written as the script spells it.
use Rattle.std.proofs.Common.{◌≡◌, ℕ, ℤ, pos, negsuc, neg_ℤ, zero, suc, ◌-◌, ◌<◌, ◌≤◌, ◌^◌, ◌==◌, ◌&&◌, Bool, true, false, cond, List, [], ◌∷◌, length, Option, Some, None, IfSome, nat_le, ap, ◌∙◌, arith}
use lib.Signed.{mag}
use Rattle.std.specs.Fmt.{decimal, signed_decimal}
use Rattle.std.specs.List.{list_all}
use Rattle.std.specs.Option.{option_map}
use Rattle.std.proofs.lemmas.Bool.{and_parts, cond_both, le-leb, leb-true}
use Rattle.std.proofs.lemmas.Bool.Decides.{nat_tests}
use Rattle.std.proofs.lemmas.Fmt.{decimal_nonempty, length-decimal-le}
use Rattle.mls_text.specs.Digits.{is_digit, is_number, value_at_most, value_of}
use Rattle.mls_server.proofs.mls_library.SavedLines.{IsPlain}
use Rattle.mls_server.proofs.mls_library.SavedNumbers.{IsPlain-digits, decimal_digits, decimal_value}
use Rattle.mls_wire.specs.Numbers.{count_written, magnitude_of, number_of}

-- ---- what is written is read
is_number-digits : (ds : List ℕ) → 0 < length ds → list_all is_digit ds ≡ true → is_number ds ≡ true
is_number-digits [] some digits = absurd (omega (arith, some))
is_number-digits (b ∷ ds) some digits = digits

magnitude_of-digits : (limit n : ℕ) (ds : List ℕ) → 0 < length ds → length ds ≤ 10 → list_all is_digit ds ≡ true → value_of ds ≡ n → n ≤ limit → magnitude_of limit ds ≡ Some n
unfolding magnitude_of
magnitude_of-digits limit n ds some short digits value within =
    ap (λ (t : Bool). cond (t && is_number ds) (value_at_most limit ds) None) (le-leb (length ds) 10 short)
    ∙ ap (λ (t : Bool). cond t (value_at_most limit ds) None) (is_number-digits ds some digits)
    ∙ ap (λ (v : ℕ). cond (nat_le v limit) (Some v) None) value
    ∙ ap (λ (t : Bool). cond t (Some n) None) (le-leb n limit within)

magnitude_of-decimal : (limit n : ℕ) → n ≤ limit → limit ≤ 2 ^ 31 → magnitude_of limit (decimal n) ≡ Some n
magnitude_of-decimal limit n within low =
    let fits : n < 2 ^ 64 = omega (arith, within, low) in
    let small : n < 10 ^ 10 = omega (arith, within, low) in
    magnitude_of-digits limit n (decimal n) (decimal_nonempty n fits) (length-decimal-le 10 n (omega arith) small fits) (decimal_digits n fits) (decimal_value n fits) within

-- digits without a `-`
number_of-bare : (ds : List ℕ) → 0 < length ds → list_all is_digit ds ≡ true → number_of ds ≡ option_map pos (magnitude_of (2 ^ 31 - 1) ds)
unfolding number_of
number_of-bare [] some digits = absurd (omega (arith, some))
number_of-bare (b ∷ ds) some digits =
    let digit : is_digit b ≡ true = (and_parts (is_digit b) (list_all is_digit ds) digits).0 in
    let bare : (b == 45) ≡ false = grind (arith, nat_tests) in
    ap (λ (t : Bool). cond t (option_map (λ n. neg_ℤ (pos n)) (magnitude_of (2 ^ 31) ds)) (option_map pos (magnitude_of (2 ^ 31 - 1) (b ∷ ds)))) bare

pub number_of-signed_decimal : (z : ℤ) → mag z < 2 ^ 31 → number_of (signed_decimal z) ≡ Some z
unfolding number_of
number_of-signed_decimal (pos n) small =
    let fits : n < 2 ^ 64 = omega (arith, small) in
    number_of-bare (decimal n) (decimal_nonempty n fits) (decimal_digits n fits) ∙ ap (option_map pos) (magnitude_of-decimal (2 ^ 31 - 1) n (omega (arith, small)) (omega arith))
number_of-signed_decimal (negsuc n) small = ap (option_map (λ k. neg_ℤ (pos k))) (magnitude_of-decimal (2 ^ 31) (suc n) (omega (arith, small)) (omega arith))

-- ---- what is read is within an i32
abbrev pub IsShort : ℤ → Type 0
IsShort z = mag z < 2 ^ 31

magnitude_of-limit : (limit : ℕ) (word : List ℕ) → IfSome (magnitude_of limit word) (λ n. n ≤ limit)
unfolding magnitude_of
magnitude_of-limit limit word =
    cond_both (nat_le (length word) 10 && is_number word) (value_at_most limit word) None (λ o. IfSome o (λ n. n ≤ limit))
    (λ _. cond_both (nat_le (value_of word) limit) (Some (value_of word)) None (λ o. IfSome o (λ n. n ≤ limit)) (λ within. leb-true (value_of word) limit within) (λ _. tt))
    (λ _. tt)

short_pos : (found : Option ℕ) → IfSome found (λ n. n ≤ 2 ^ 31 - 1) → IfSome (option_map pos found) IsShort
short_pos None within = tt
short_pos (Some n) within = omega (arith, within)

short_neg : (found : Option ℕ) → IfSome found (λ n. n ≤ 2 ^ 31) → IfSome (option_map (λ n. neg_ℤ (pos n)) found) IsShort
short_neg None within = tt
short_neg (Some zero) within = omega arith
short_neg (Some (suc n)) within = omega (arith, within)

pub number_of-short : (word : List ℕ) → IfSome (number_of word) IsShort
unfolding number_of
number_of-short [] = tt
number_of-short (b ∷ word) =
    cond_both (b == 45) (option_map (λ n. neg_ℤ (pos n)) (magnitude_of (2 ^ 31) word)) (option_map pos (magnitude_of (2 ^ 31 - 1) (b ∷ word))) (λ o. IfSome o IsShort)
    (λ _. short_neg (magnitude_of (2 ^ 31) word) (magnitude_of-limit (2 ^ 31) word)) (λ _. short_pos (magnitude_of (2 ^ 31 - 1) (b ∷ word)) (magnitude_of-limit (2 ^ 31 - 1) (b ∷ word)))

-- ---- counts
pub decimal_plain : (n : ℕ) → n < 2 ^ 64 → IsPlain (decimal n) × (0 < length (decimal n))
decimal_plain n fits = (IsPlain-digits (decimal n) (decimal_digits n fits), decimal_nonempty n fits)

pub count_written-decimal : (n : ℕ) → 1 ≤ n → n < 2 ^ 64 → count_written (decimal n) ≡ Some n
unfolding count_written
count_written-decimal n some fits =
    let ds = decimal n in
    let small : n < 10 ^ 20 = omega (arith, fits) in
    ap (λ (t : Bool). cond (t && is_number ds && nat_le 1 (value_of ds) && nat_le (value_of ds) (2 ^ 64 - 1)) (Some (value_of ds)) None)
    (le-leb (length ds) 20 (length-decimal-le 20 n (omega arith) small fits))
    ∙ ap (λ (t : Bool). cond (t && nat_le 1 (value_of ds) && nat_le (value_of ds) (2 ^ 64 - 1)) (Some (value_of ds)) None)
    (is_number-digits ds (decimal_nonempty n fits) (decimal_digits n fits))
    ∙ ap (λ (v : ℕ). cond (nat_le 1 v && nat_le v (2 ^ 64 - 1)) (Some v) None) (decimal_value n fits)
    ∙ ap (λ (t : Bool). cond (t && nat_le n (2 ^ 64 - 1)) (Some n) None) (le-leb 1 n some)
    ∙ ap (λ (t : Bool). cond t (Some n) None) (le-leb n (2 ^ 64 - 1) (omega (arith, fits)))
