-- Numbers in a technology file: one or more digits. This project's own limits.
use Rattle.std.specs.Prelude.{ℕ, not, ◌&&◌, nat_le, if◌then◌else◌, Result, Ok, Err, List}
use Rattle.mls_text.specs.Digits.{is_number, value_of}
use Rattle.mls_tech.specs.declared.fault.TechFaultKind.{TechFaultKind}
use Rattle.mls_tech.specs.declared.fault.TechFaultKind.TheVariants.{BadNumber, Limit}

-- the number between two limits, however many digits it has
unfoldable pub number_in : ℕ → ℕ → List ℕ → Result ℕ TechFaultKind
number_in least most word =
    if not (is_number word) then Err BadNumber
    else (if nat_le least (value_of word) && nat_le (value_of word) most then Ok (value_of word) else Err Limit)
