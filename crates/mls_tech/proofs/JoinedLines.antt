-- A line that ends with `\` goes on in the next.
use Rattle.std.proofs.Common.{◌≡◌, ◌<◌, ◌+◌, ℕ, true, false, List, [], ◌∷◌, ◌++◌, length, refl, ⊎_elim, append_assoc}
use Rattle.std.specs.List.{position_or_len}
use Rattle.std.proofs.lemmas.Bool.{cond_both, cases_lt}
use Rattle.mls_tech.specs.FileLines.{NumberedLine, goes_on, with_blank, joined_to, joined_from}
use Rattle.mls_text.specs.Lines.{raw_lines}
use Rattle.mls_text.proofs.RawLineLemmas.{is_line_feed, raw_lines-feed, raw_lines-no_feed}

-- a text in front of a text
joined_to-joined_to : (n m : ℕ) (text more : List ℕ) (lines : List NumberedLine) → joined_to n text (joined_to m more lines) ≡ joined_to n (text ++ more) lines
joined_to-joined_to n m text more [] = refl
joined_to-joined_to n m text more (first ∷ lines) = rw append_assoc refl

-- a line that goes on is added to the text
pub joined_to-goes_on : (n m : ℕ) (text raw : List ℕ) (lines : List (List ℕ)) → goes_on raw ≡ true
    → joined_to n text (joined_from m (raw ∷ lines)) ≡ joined_to n (text ++ with_blank raw) (joined_from (m + 1) lines)
joined_to-goes_on n m text raw lines more = rw more (joined_to-joined_to n m text (with_blank raw) (joined_from (m + 1) lines))

-- one that doesn't ends it
pub joined_to-ends : (n m : ℕ) (text raw : List ℕ) (lines : List (List ℕ)) → goes_on raw ≡ false
    → joined_to n text (joined_from m (raw ∷ lines)) ≡ record { line = n; bytes = text ++ raw } ∷ joined_from (m + 1) lines
joined_to-ends n m text raw lines ends = rw ends refl

-- no text in front of a line changes nothing
joined_to-no_text : (n : ℕ) (raw : List ℕ) (lines all : List (List ℕ)) → all ≡ raw ∷ lines → joined_to n [] (joined_from n all) ≡ joined_from n all
joined_to-no_text n raw lines all begins =
    rw begins (cond_both (goes_on raw) (joined_to n (with_blank raw) (joined_from (n + 1) lines)) (record { line = n; bytes = raw } ∷ joined_from (n + 1) lines)
    (λ joined. joined_to n [] joined ≡ joined) (λ _. joined_to-joined_to n n [] (with_blank raw) (joined_from (n + 1) lines)) (λ _. refl))

pub joined_to-nothing : (n : ℕ) (bytes : List ℕ) → 0 < length bytes → joined_to n [] (joined_from n (raw_lines bytes)) ≡ joined_from n (raw_lines bytes)
joined_to-nothing n bytes some =
    ⊎_elim
    (λ within. joined_to-no_text n _ _ (raw_lines bytes) (raw_lines-feed bytes within))
    (λ none. joined_to-no_text n _ _ (raw_lines bytes) (raw_lines-no_feed bytes some none))
    (cases_lt (position_or_len is_line_feed bytes) (length bytes))

pub ruleset steps = (joined_to-nothing, joined_to-goes_on, joined_to-ends)
