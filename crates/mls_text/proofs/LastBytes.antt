-- The last byte of a line, and a carriage return there that is dropped.
use Rattle.std.proofs.Common.{◌≡◌, ◌<◌, ◌≤◌, ◌+◌, ◌-◌, ◌==◌, ℕ, if◌then◌else◌, true, false, List, [], ◌∷◌, ◌++◌, length, take, get_or, ap, refl, ◌∙◌, arith}
use Rattle.std.proofs.lemmas.List.{take_more, take_all}
use Rattle.std.proofs.lemmas.Bool.{ne_eqb}
use Rattle.mls_text.specs.Lines.{without_return}

pub split_last : (bytes : List ℕ) → 0 < length bytes → bytes ≡ take (length bytes - 1) bytes ++ get_or bytes (length bytes - 1) 0 ∷ []
split_last bytes some = grind (arith, take_more bytes (length bytes - 1) 0 (omega arith), take_all (length bytes - 1 + 1) bytes (omega arith))

-- ---- with one byte more at the end
pub without_return-push : (line : List ℕ) (b : ℕ) → without_return (line ++ b ∷ []) ≡ (if b == 13 then line else line ++ b ∷ [])
without_return-push [] b = refl
without_return-push (x ∷ []) b = elim (b == 13) as (λ r. x ∷ (if r then [] else b ∷ []) ≡ (if r then x ∷ [] else x ∷ b ∷ [])) [ true ↦ refl | false ↦ refl ]
without_return-push (x ∷ y ∷ line) b =
    ap (λ l. x ∷ l) (without_return-push (y ∷ line) b)
    ∙ elim (b == 13) as (λ r. x ∷ (if r then y ∷ line else y ∷ line ++ b ∷ []) ≡ (if r then x ∷ y ∷ line else x ∷ y ∷ line ++ b ∷ [])) [ true ↦ refl | false ↦ refl ]

without_return-push_return : (front : List ℕ) → without_return (front ++ 13 ∷ []) ≡ front
without_return-push_return front = without_return-push front 13

without_return-push_other : (front : List ℕ) (last : ℕ) → (last == 13) ≡ false → without_return (front ++ last ∷ []) ≡ front ++ last ∷ []
without_return-push_other front last other = without_return-push front last ∙ rw other refl

-- ---- by the last byte
pub without_return-return : (line : List ℕ) → 0 < length line → get_or line (length line - 1) 0 ≡ 13 → without_return line ≡ take (length line - 1) line
without_return-return line some last = grind (arith, split_last line some, without_return-push_return)

without_return-ends : (line : List ℕ) → 0 < length line → (get_or line (length line - 1) 0 == 13) ≡ false → without_return line ≡ line
without_return-ends line some other = grind (arith, split_last line some, without_return-push_other)

pub without_return-other : (line : List ℕ) → (0 < length line → get_or line (length line - 1) 0 ≡ 13 → ⊥) → without_return line ≡ line
without_return-other [] other = refl
without_return-other (b ∷ line) other = without_return-ends (b ∷ line) (omega arith) (ne_eqb _ 13 (other (omega arith)))

pub ruleset returns = (without_return-return, without_return-other)

-- a carriage return is at most one byte
pub length-without_return : (line : List ℕ) → (length (without_return line) ≤ length line) × (length line ≤ length (without_return line) + 1)
length-without_return [] = (omega arith, omega arith)
length-without_return (b ∷ []) = elim (b == 13) as (λ r. (length (if r then [] else b ∷ []) ≤ 1) × (1 ≤ length (if r then [] else b ∷ []) + 1)) [ true ↦ (omega arith, omega arith) | false ↦ (omega arith, omega arith) ]
length-without_return (b ∷ c ∷ line) = let h = length-without_return (c ∷ line) in (omega arith, omega arith)
