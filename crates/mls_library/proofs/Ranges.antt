-- Numbers in a row.
use Rattle.std.proofs.Common.{◌≡◌, ℕ, zero, suc, ◌+◌, ◌∷◌, ◌++◌, [], ap, ◌∙◌, arith}
use Rattle.std.specs.List.{range_with_len}

-- a range is one number longer at its end
pub range-push : (a n : ℕ) → range_with_len a (suc n) ≡ range_with_len a n ++ (a + n) ∷ []
range-push a zero = ap (λ x. x ∷ []) (omega arith)
range-push a (suc n) = ap (λ rest. a ∷ rest) (range-push (a + 1) n ∙ ap (λ x. range_with_len (a + 1) n ++ x ∷ []) (omega arith))
