-- The last byte of a line: a `\` in whose place a blank is read.
use Rattle.std.proofs.Common.{◌≡◌, ◌<◌, ◌+◌, ◌-◌, ◌==◌, ℕ, Bool, true, false, List, [], ◌∷◌, ◌++◌, length, take, get_or, ap, refl, ◌∙◌, arith, append_assoc}
use Rattle.std.proofs.lemmas.Bool.{ne_eqb}
use Rattle.mls_tech.specs.FileLines.{goes_on, with_blank}
use Rattle.mls_text.proofs.LastBytes.{split_last}

goes_on-push : (front : List ℕ) (last : ℕ) → goes_on (front ++ last ∷ []) ≡ (last == 92)
goes_on-push [] last = refl
goes_on-push (b ∷ []) last = refl
goes_on-push (b ∷ c ∷ front) last = goes_on-push (c ∷ front) last

with_blank-push : (front : List ℕ) (last : ℕ) → with_blank (front ++ last ∷ []) ≡ front ++ 32 ∷ []
with_blank-push [] last = refl
with_blank-push (b ∷ []) last = refl
with_blank-push (b ∷ c ∷ front) last = ap (λ bytes. b ∷ bytes) (with_blank-push (c ∷ front) last)

-- ---- by the last byte
goes_on-last : (line : List ℕ) → 0 < length line → goes_on line ≡ (get_or line (length line - 1) 0 == 92)
goes_on-last line some = grind (arith, split_last line some, goes_on-push)

pub goes_on-backslash : (line : List ℕ) → 0 < length line → get_or line (length line - 1) 0 ≡ 92 → goes_on line ≡ true
goes_on-backslash line some last = rw (goes_on-last line some, last) refl

pub goes_on-other : (line : List ℕ) → (0 < length line → get_or line (length line - 1) 0 ≡ 92 → ⊥) → goes_on line ≡ false
goes_on-other [] other = refl
goes_on-other (b ∷ line) other = goes_on-last (b ∷ line) (omega arith) ∙ ne_eqb _ 92 (other (omega arith))

pub with_blank-last : (line : List ℕ) → 0 < length line → with_blank line ≡ take (length line - 1) line ++ 32 ∷ []
with_blank-last line some = grind (arith, split_last line some, with_blank-push)

pub ruleset joins = (append_assoc, goes_on-backslash, goes_on-other, with_blank-last)
