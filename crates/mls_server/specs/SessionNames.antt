-- How sessions are named. This project's own.
use Rattle.std.specs.Prelude.{ℕ, ◌==◌, Bool, ◌||◌, ◌&&◌, nat_le, List, length}
use Rattle.std.specs.List.{list_all}

-- a letter, a digit or `_` of ASCII
abbrev pub is_name_byte : ℕ → Bool
is_name_byte b = (nat_le 48 b && nat_le b 57) || (nat_le 65 b && nat_le b 90) || (nat_le 97 b && nat_le b 122) || b == 95

-- 1 to 32 such bytes
abbrev pub is_session_name : List ℕ → Bool
is_session_name word = nat_le 1 (length word) && nat_le (length word) 32 && list_all is_name_byte word
