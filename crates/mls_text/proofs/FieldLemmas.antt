-- The first field of a text, and the fields after its comma.
use Rattle.std.proofs.Common.{◌≡◌, ◌<◌, ◌≤◌, ◌+◌, ◌==◌, ℕ, Bool, not, Some, None, List, [], ◌∷◌, length, take, drop, ap, refl, arith, add-one, position}
use Rattle.std.specs.List.{position_or_len}
use Rattle.std.proofs.Math.Numerals.{one-add}
use Rattle.std.proofs.lemmas.Bool.{cond_both, not-true, not-false}
use Rattle.std.proofs.lemmas.Bool.Decides.{nat_tests}
use Rattle.std.proofs.lemmas.List.{take_rest}
use Rattle.mls_text.specs.Fields.{fields_of}
use Rattle.mls_text.specs.Words.{onto_first}

abbrev is_comma : ℕ → Bool
is_comma b = b == 44

-- the first field goes up to the first comma, and the other fields stand after it
fields_of-comma : (text : List ℕ) → position_or_len is_comma text < length text
    → fields_of text ≡ take (position_or_len is_comma text) text ∷ fields_of (drop (position_or_len is_comma text + 1) text)
fields_of-comma [] within = absurd (omega arith)
fields_of-comma (b ∷ text) within =
    cond_both (not (is_comma b)) (1 + position_or_len is_comma text) 0
    (λ n. n < length (b ∷ text) → fields_of (b ∷ text) ≡ take n (b ∷ text) ∷ fields_of (drop (n + 1) (b ∷ text)))
    (λ other later. rw (not-true (is_comma b) other, one-add, add-one) (ap (onto_first b) (rw add-one at (fields_of-comma text (omega arith)))))
    (λ comma _. rw (not-false (is_comma b) comma) refl) within

-- a text without commas is one field
fields_of-no_comma : (text : List ℕ) → length text ≤ position_or_len is_comma text → fields_of text ≡ text ∷ []
fields_of-no_comma [] none = refl
fields_of-no_comma (b ∷ text) none =
    cond_both (not (is_comma b)) (1 + position_or_len is_comma text) 0 (λ n. length (b ∷ text) ≤ n → fields_of (b ∷ text) ≡ (b ∷ text) ∷ [])
    (λ other later. rw (not-true (is_comma b) other) (ap (onto_first b) (fields_of-no_comma text (omega arith))))
    (λ _ more. absurd (omega arith)) none

pub fields_of-first : (text : List ℕ) (end : ℕ) → position is_comma text ≡ Some end → fields_of text ≡ take end text ∷ fields_of (drop (end + 1) text)
fields_of-first text end at = grind (arith, nat_tests, fields_of-comma)

pub fields_of-last : (text : List ℕ) → position is_comma text ≡ None → fields_of text ≡ text ∷ []
fields_of-last text none = grind (arith, nat_tests, fields_of-no_comma)

pub ruleset first = (take_rest, fields_of-first, fields_of-last)
