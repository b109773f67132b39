-- The first word of a line, and the words after it.
use Rattle.std.proofs.Common.{◌≡◌, ◌≢◌, ℕ, true, false, List, [], ◌∷◌, length, take, drop, sym, ap, ◌∙◌, refl, ⊎_elim}
use Rattle.std.specs.List.{prefix_len, position_or_len}
use Rattle.std.proofs.Math.Numerals.{one-add}
use Rattle.std.proofs.lemmas.Bool.{cond_both, cases_Bool, not-true, not-false}
use Rattle.std.proofs.lemmas.List.{nil_from_length, take_rest}
use Rattle.std.proofs.lemmas.List.Sums.{prefix_len-le-length}
use Rattle.mls_text.specs.Words.{onto_first, is_blank, begins_with_word, words_of}

-- blanks in front are left out
pub words_of-drop_blanks : (bytes : List ℕ) → words_of (drop (prefix_len is_blank bytes) bytes) ≡ words_of bytes
words_of-drop_blanks [] = refl
words_of-drop_blanks (b ∷ bytes) =
    cond_both (is_blank b) _ 0 (λ n. words_of (drop n (b ∷ bytes)) ≡ words_of (b ∷ bytes))
    (λ blank. rw (one-add, blank) (words_of-drop_blanks bytes))
    (λ solid. refl)

-- and then the bytes begin with a word, if there is one
pub begins_with_word-drop_blanks : (bytes : List ℕ) → length (drop (prefix_len is_blank bytes) bytes) ≢ 0 → begins_with_word (drop (prefix_len is_blank bytes) bytes) ≡ true
begins_with_word-drop_blanks [] more = absurd (more refl)
begins_with_word-drop_blanks (b ∷ bytes) more =
    cond_both (is_blank b) _ 0 (λ n. length (drop n (b ∷ bytes)) ≢ 0 → begins_with_word (drop n (b ∷ bytes)) ≡ true)
    (λ blank. rw one-add (begins_with_word-drop_blanks bytes))
    (λ solid _. rw solid refl) more

-- where no word begins, the first blank is at once
position_or_len-no_word : (bytes : List ℕ) → begins_with_word bytes ≡ false → position_or_len is_blank bytes ≡ 0
position_or_len-no_word [] none = refl
position_or_len-no_word (b ∷ bytes) none = rw (not-false _ none) refl

-- the first word goes up to the first blank, and the other words stand behind it
pub words_of-first : (bytes : List ℕ) → begins_with_word bytes ≡ true → words_of bytes ≡ take (position_or_len is_blank bytes) bytes ∷ words_of (drop (position_or_len is_blank bytes) bytes)
words_of-first [] begins = cc
words_of-first (b ∷ bytes) begins =
    rw (not-true (is_blank b) begins, one-add)
    (⊎_elim
    (λ goes_on. rw goes_on (ap (onto_first b) (words_of-first bytes goes_on)))
    (λ ends. rw (position_or_len-no_word bytes ends) (rw ends refl))
    (cases_Bool (begins_with_word bytes)))

-- the words of a line that has none, and of one that has
pub words_of-blank : (line : List ℕ) → length (drop (prefix_len is_blank line) line) ≡ 0 → words_of line ≡ []
words_of-blank line none = sym (words_of-drop_blanks line) ∙ ap words_of (nil_from_length _ none)

pub words_of-begun :
    (line : List ℕ) → let begun = drop (prefix_len is_blank line) line in
    length begun ≢ 0 → words_of line ≡ take (position_or_len is_blank begun) begun ∷ words_of (drop (position_or_len is_blank begun) begun)
words_of-begun line more = sym (words_of-drop_blanks line) ∙ words_of-first (drop (prefix_len is_blank line) line) (begins_with_word-drop_blanks line more)

pub ruleset first = (take_rest, words_of-blank, words_of-begun, prefix_len-le-length)
