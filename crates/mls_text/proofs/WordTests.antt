-- Tests of words.
use Rattle.std.proofs.Common.{◌≡◌, ℕ, suc, ◌==◌, List, [], ◌∷◌, length, refl, sym, arith}
use Rattle.std.proofs.lemmas.Bool.{ne_eqb}
use Rattle.mls_text.specs.Words.{is_empty}

pub is_empty_by_length : (word : List ℕ) → is_empty word ≡ (length word == 0)
is_empty_by_length [] = refl
is_empty_by_length (b ∷ word) = sym (ne_eqb (suc (length word)) 0 (λ same. omega arith))
