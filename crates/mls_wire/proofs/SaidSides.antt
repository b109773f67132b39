-- What holds of the four lines that words say, whatever the words are.
use Rattle.std.proofs.Common.{◌≡◌, ℤ, List, ℕ, [], ◌∷◌, Option, Some, None, Result, Ok, Err, refl}
use Rattle.mls_wire.specs.Numbers.{number_of}
use Rattle.mls_wire.specs.Says.{sides_of, sides_say}
use Rattle.mls_wire.specs.declared.line.LineFault.{LineFault}
use Rattle.mls_wire.specs.declared.line.LineFault.TheVariants.{BadNumber, UnknownCommand}
use Rattle.mls_wire.specs.declared.parse.Sides.{Sides}

-- it holds of those of four numbers, and of the fault that one is missing
pub sides_of-by : (P : Result Sides LineFault → Type 0) (l b r t : Option ℤ) → P (Err BadNumber)
    → ((left bottom right top : ℤ) → l ≡ Some left → b ≡ Some bottom → r ≡ Some right → t ≡ Some top → P (Ok (record { left = left; bottom = bottom; right = right; top = top })))
    → P (sides_of l b r t)
unfolding sides_of
sides_of-by P None b r t bad good = bad
sides_of-by P (Some left) None r t bad good = bad
sides_of-by P (Some left) (Some bottom) None t bad good = bad
sides_of-by P (Some left) (Some bottom) (Some right) None bad good = bad
sides_of-by P (Some left) (Some bottom) (Some right) (Some top) bad good = good left bottom right top refl refl refl refl

-- it holds of those of four words, and of the fault that there are more or fewer
pub sides_say-by : (P : List (List ℕ) → Result Sides LineFault → Type 0) → ((words : List (List ℕ)) → P words (Err UnknownCommand))
    → ((l b r t : List ℕ) → P (l ∷ b ∷ r ∷ t ∷ []) (sides_of (number_of l) (number_of b) (number_of r) (number_of t)))
    → (words : List (List ℕ)) → P words (sides_say words)
unfolding sides_say
sides_say-by P other four [] = other []
sides_say-by P other four (l ∷ []) = other (l ∷ [])
sides_say-by P other four (l ∷ b ∷ []) = other (l ∷ b ∷ [])
sides_say-by P other four (l ∷ b ∷ r ∷ []) = other (l ∷ b ∷ r ∷ [])
sides_say-by P other four (l ∷ b ∷ r ∷ t ∷ []) = four l b r t
sides_say-by P other four (l ∷ b ∷ r ∷ t ∷ more ∷ words) = other (l ∷ b ∷ r ∷ t ∷ more ∷ words)
