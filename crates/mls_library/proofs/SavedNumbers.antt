-- Numbers that are written are read as themselves.
use Rattle.std.proofs.Common.{◌≡◌, ℕ, ℤ, pos, negsuc, neg_ℤ, ◌-ℤ◌, suc, ◌+◌, ◌<◌, ◌≤◌, ◌^◌, ◌==◌, Bool, true, false, ◌||◌, if◌then◌else◌, ◌-◌, ◌*◌, List, [], ◌∷◌, length, ⊎_elim, Ok, Err, refl, ap, ◌∙◌, rules, arith}
use Rattle.std.specs.Prelude.{int_le}
use lib.Signed.{mag}
use Rattle.std.specs.Fmt.{decimal, signed_decimal}
use Rattle.std.specs.List.{list_all, fold}
use Rattle.std.proofs.lemmas.Bool.{and_parts, cases_lt}
use Rattle.std.proofs.lemmas.Bool.Decides.{nat_tests}
use Rattle.std.proofs.lemmas.Fmt.{decimal_nonempty, digits_decimal, digits_value-decimal}
use Rattle.std.proofs.lemmas.Int.{ints}
use Rattle.std.proofs.lemmas.List.Elements.{All-cons, All-nil}
use Rattle.std.proofs.lemmas.Str.Parse.{IsNumeralModel, numerals_by_fold}
use Rattle.mls_geom.specs.Rects.{Rect, IsRectangleIn}
use Rattle.mls_geom.specs.World.{coordinate_of, is_outside, origin, rect_of, world}
use Rattle.mls_geom.specs.declared.rect.RectFault.TheVariants.{Empty, Outside}
use Rattle.mls_text.specs.Digits.{is_digit, is_number, value_of}
use Rattle.mls_library.specs.CellFiles.{integer_of, is_integer, world_line}
use Rattle.mls_library.specs.SavedCells.{coordinate_text}
use Rattle.mls_library.proofs.SavedLines.{IsPlain}
use Rattle.mls_library.specs.declared.fault.CellFaultKind.TheVariants.{OutsideWorld}

-- digits in this crate's words
digits_model : IsNumeralModel (λ ds. list_all is_digit ds ≡ true) value_of
digits_model = numerals_by_fold _ (search rules) (λ n ds. fold (λ m b. 10 * m + (b - 48)) n ds) (search rules)

-- digits alone spell the number that they count
plain_integer : (ds : List ℕ) → 0 < length ds → list_all is_digit ds ≡ true → (is_integer ds ≡ true) × (integer_of ds ≡ pos (value_of ds))
unfolding integer_of
plain_integer [] some digits = absurd (omega arith)
plain_integer (b ∷ ds) some digits =
    let digit = and_parts (is_digit b) (list_all is_digit ds) digits in
    let bare : (b == 45) ≡ false = grind (arith, nat_tests) in
    rw bare (digits, refl)

-- the digits of a number
module _ (n : ℕ) (small : n < 2 ^ 64) where
  pub decimal_digits : list_all is_digit (decimal n) ≡ true
  decimal_digits = digits_decimal digits_model n small

  pub decimal_value : value_of (decimal n) ≡ n
  decimal_value = digits_value-decimal digits_model n small

-- what is written is read as the same number
pub signed_decimal-read : (z : ℤ) → mag z < 2 ^ 63 → (is_integer (signed_decimal z) ≡ true) × (integer_of (signed_decimal z) ≡ z)
unfolding integer_of
signed_decimal-read (pos n) small =
    let fits : n < 2 ^ 64 = omega arith in
    let read = plain_integer (decimal n) (decimal_nonempty n fits) (decimal_digits n fits) in
    (read.0, read.1 ∙ ap pos (decimal_value n fits))
signed_decimal-read (negsuc n) small =
    let fits : suc n < 2 ^ 64 = omega arith in
    let read = plain_integer (decimal (suc n)) (decimal_nonempty (suc n) fits) (decimal_digits (suc n) fits) in
    (number (decimal (suc n)) (decimal_nonempty (suc n) fits) (decimal_digits (suc n) fits), ap (λ v. neg_ℤ (pos v)) (decimal_value (suc n) fits))
  where
    number : (ds : List ℕ) → 0 < length ds → list_all is_digit ds ≡ true → is_number ds ≡ true
    number [] some digits = absurd (omega arith)
    number (b ∷ ds) some digits = digits

-- it has only digits and a `-`
pub IsPlain-digits : (ds : List ℕ) → list_all is_digit ds ≡ true → IsPlain ds
IsPlain-digits [] digits = All-nil (λ b. 45 ≤ b)
IsPlain-digits (b ∷ ds) digits =
    let parts = and_parts (is_digit b) (list_all is_digit ds) digits in
    let above : 45 ≤ b = let digit : is_digit b ≡ true = parts.0 in grind (arith, nat_tests) in
    All-cons (λ c. 45 ≤ c) b ds above (IsPlain-digits ds parts.1)

pub signed_decimal-plain : (z : ℤ) → mag z < 2 ^ 63 → IsPlain (signed_decimal z) × (0 < length (signed_decimal z))
signed_decimal-plain (pos n) small =
    let fits : n < 2 ^ 64 = omega arith in
    (IsPlain-digits (decimal n) (decimal_digits n fits), decimal_nonempty n fits)
signed_decimal-plain (negsuc n) small =
    let fits : suc n < 2 ^ 64 = omega arith in
    (All-cons (λ c. 45 ≤ c) 45 (decimal (suc n)) (omega arith) (IsPlain-digits (decimal (suc n)) (decimal_digits (suc n) fits)), omega arith)

-- ---- lines of the world
abbrev pub user_line : ℕ → ℤ
user_line line = pos line -ℤ pos origin

module _ (line : ℕ) (from : world.left ≤ line) (to : line ≤ world.right) where
  pub short_line : mag (user_line line) < 2 ^ 31
  short_line = ⊎_elim
      (λ (before : line < 4194304). let z : user_line line ≡ negsuc (4194303 - line) = omega (arith, ints) in rw z (omega arith))
      (λ (after : 4194304 ≤ line). let z : user_line line ≡ pos (line - 4194304) = omega (arith, ints) in rw z (omega arith))
      (cases_lt line 4194304)

  small_line : mag (user_line line) < 2 ^ 63
  small_line = omega (arith, short_line)

  pub inside_world : is_outside (user_line line) ≡ false
  unfolding is_outside
  inside_world = grind (arith, ints, nat_tests)

  pub is_integer-coordinate_text : is_integer (coordinate_text line) ≡ true
  is_integer-coordinate_text = (signed_decimal-read (user_line line) small_line).0

  pub world_line-coordinate_text : world_line (coordinate_text line) ≡ Ok (user_line line)
  unfolding world_line
  world_line-coordinate_text =
      ap (λ z. if is_outside z then Err OutsideWorld else Ok z) (signed_decimal-read (user_line line) small_line).1
      ∙ ap (λ outside. if outside then Err OutsideWorld else Ok (user_line line)) inside_world

  pub IsPlain-coordinate_text : IsPlain (coordinate_text line)
  IsPlain-coordinate_text = (signed_decimal-plain (user_line line) small_line).0

  pub some-coordinate_text : 0 < length (coordinate_text line)
  some-coordinate_text = (signed_decimal-plain (user_line line) small_line).1

  pub coordinate_of-user_line : coordinate_of (user_line line) ≡ line
  unfolding coordinate_of
  coordinate_of-user_line = omega (arith, ints)

-- lines are in order as users count them
not_at_most : (low high : ℕ) → low < high → int_le (user_line high) (user_line low) ≡ false
not_at_most low high before = grind (arith, ints)

-- the four lines of a rectangle of the world make it again
pub rect_of-user_lines : (rect : Rect) → IsRectangleIn world rect → rect_of (user_line rect.left) (user_line rect.bottom) (user_line rect.right) (user_line rect.top) ≡ Ok rect
unfolding rect_of
rect_of-user_lines rect legal =
    let left_from : 3145728 ≤ rect.left = legal.left_in in
    let bottom_from : 3145728 ≤ rect.bottom = legal.bottom_in in
    let right_to : rect.right ≤ 5242880 = legal.right_in in
    let top_to : rect.top ≤ 5242880 = legal.top_in in
    let wide : rect.left < rect.right = legal.wide in
    let tall : rect.bottom < rect.top = legal.tall in
    let left_to : rect.left ≤ 5242880 = omega arith in
    let bottom_to : rect.bottom ≤ 5242880 = omega arith in
    let right_from : 3145728 ≤ rect.right = omega arith in
    let top_from : 3145728 ≤ rect.top = omega arith in
    let flat = not_at_most rect.left rect.right wide in
    let short = not_at_most rect.bottom rect.top tall in
    let l = inside_world rect.left left_from left_to in
    let b = inside_world rect.bottom bottom_from bottom_to in
    let r = inside_world rect.right right_from right_to in
    let t = inside_world rect.top top_from top_to in
    let made = λ (flat short l b r t : Bool) (rect : Rect). if flat || short then Err Empty else (if l || b || r || t then Err Outside else Ok rect) in
    λ i. made (flat i) (short i) (l i) (b i) (r i) (t i) (record {
      left = coordinate_of-user_line rect.left left_from left_to i;
      bottom = coordinate_of-user_line rect.bottom bottom_from bottom_to i;
      right = coordinate_of-user_line rect.right right_from right_to i;
      top = coordinate_of-user_line rect.top top_from top_to i;
    })
