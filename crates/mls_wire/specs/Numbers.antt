-- Numbers as a script spells them: an optional `-` and one to ten digits, within an i32; and counts. This project's own.
use Rattle.std.specs.Prelude.{ℕ, ◌-◌, ◌^◌, ◌==◌, nat_le, ◌&&◌, if◌then◌else◌, Option, Some, None, List, [], ◌∷◌, length, ℤ, pos, neg_ℤ}
use Rattle.std.specs.Option.{option_map}
use Rattle.mls_text.specs.Digits.{is_number, value_at_most, value_of}

-- the number of one to ten digits, where it is within a limit
unfoldable pub magnitude_of : ℕ → List ℕ → Option ℕ
magnitude_of limit word = if nat_le (length word) 10 && is_number word then value_at_most limit word else None

unfoldable pub number_of : List ℕ → Option ℤ
number_of [] = None
number_of (b ∷ word) =
    if b == 45 then option_map (λ n. neg_ℤ (pos n)) (magnitude_of (2 ^ 31) word)
    else option_map pos (magnitude_of (2 ^ 31 - 1) (b ∷ word))

-- how many times: one to twenty digits, at least 1 and within a u64
unfoldable pub count_written : List ℕ → Option ℕ
count_written word =
    if nat_le (length word) 20 && is_number word && nat_le 1 (value_of word) && nat_le (value_of word) (2 ^ 64 - 1) then Some (value_of word) else None
