-- Numbers as decimal digits.
use Rattle.std.specs.Prelude.{ℕ, ◌+◌, ◌-◌, ◌*◌, Bool, not, ◌&&◌, nat_le, if◌then◌else◌, Option, Some, None, List, fold}
use Rattle.std.specs.List.{list_all}
use Rattle.mls_text.specs.Words.{is_empty}

abbrev pub is_digit : ℕ → Bool
is_digit b = nat_le 48 b && nat_le b 57

-- one or more digits
abbrev pub is_number : List ℕ → Bool
is_number word = not (is_empty word) && list_all is_digit word

-- the value of digits, of which the first counts most; 0 where there are none
abbrev pub value_of : List ℕ → ℕ
value_of digits = fold (λ n b. 10 * n + (b - 48)) 0 digits

-- the value of digits where it is within a limit
abbrev pub value_at_most : ℕ → List ℕ → Option ℕ
value_at_most limit digits = if nat_le (value_of digits) limit then Some (value_of digits) else None
