-- The first line of a file as it stands there, and the lines after its line feed.
use Rattle.std.proofs.Common.{◌≡◌, ◌<◌, ◌≤◌, ◌+◌, ◌==◌, ℕ, Bool, not, ◌&&◌, Some, None, List, [], ◌∷◌, length, take, drop, refl, arith, add-one, position}
use Rattle.std.specs.Prelude.{if◌then◌else◌}
use Rattle.std.specs.List.{position_or_len}
use Rattle.std.proofs.Math.Numerals.{one-add}
use Rattle.std.proofs.lemmas.Bool.{cond_both, not-true, not-false}
use Rattle.std.proofs.lemmas.Bool.Decides.{nat_tests}
use Rattle.std.proofs.lemmas.List.{take_rest}
use Rattle.mls_text.specs.Words.{onto_first, begins_with}
use Rattle.mls_text.specs.Lines.{raw_lines, without_return}

abbrev pub is_line_feed : ℕ → Bool
is_line_feed b = b == 10

-- ---- a line feed stands ahead
-- a byte in front of the first line, whose carriage return is dropped
raw_line-cons : (b : ℕ) (bytes : List ℕ) (lines : List (List ℕ)) → position_or_len is_line_feed bytes < length bytes
    → let first = without_return (take (position_or_len is_line_feed bytes) bytes) in
    (if b == 13 && begins_with 10 bytes then first ∷ lines else (b ∷ first) ∷ lines) ≡ without_return (b ∷ take (position_or_len is_line_feed bytes) bytes) ∷ lines
raw_line-cons b [] lines within = absurd (omega arith)
raw_line-cons b (c ∷ bytes) lines within =
    cond_both (not (is_line_feed c)) (1 + position_or_len is_line_feed bytes) 0
    (λ n. (if b == 13 && begins_with 10 (c ∷ bytes) then without_return (take n (c ∷ bytes)) ∷ lines else (b ∷ without_return (take n (c ∷ bytes))) ∷ lines) ≡ without_return (b ∷ take n (c ∷ bytes)) ∷ lines)
    (λ other. rw (not-true (is_line_feed c) other, one-add) (grind arith))
    (λ feed. rw (not-false (is_line_feed c) feed) (grind arith))

pub raw_lines-feed : (bytes : List ℕ) → position_or_len is_line_feed bytes < length bytes
    → raw_lines bytes ≡ without_return (take (position_or_len is_line_feed bytes) bytes) ∷ raw_lines (drop (position_or_len is_line_feed bytes + 1) bytes)
raw_lines-feed [] within = absurd (omega arith)
raw_lines-feed (b ∷ bytes) within =
    cond_both (not (is_line_feed b)) (1 + position_or_len is_line_feed bytes) 0
    (λ n. n < length (b ∷ bytes) → raw_lines (b ∷ bytes) ≡ without_return (take n (b ∷ bytes)) ∷ raw_lines (drop (n + 1) (b ∷ bytes)))
    (λ other later. rw (not-true (is_line_feed b) other, one-add, add-one, rw add-one at (raw_lines-feed bytes (omega arith))) (raw_line-cons b bytes _ (omega arith)))
    (λ feed _. rw (not-false (is_line_feed b) feed) refl) within

-- ---- no line feed stands ahead
raw_lines-other : (b : ℕ) (bytes : List ℕ) → length (b ∷ bytes) ≤ position_or_len is_line_feed (b ∷ bytes) → raw_lines (b ∷ bytes) ≡ onto_first b (raw_lines bytes)
raw_lines-other b [] none = grind (arith, nat_tests)
raw_lines-other b (c ∷ bytes) none = grind (arith, nat_tests)

onto_first-no_feed : (b : ℕ) (bytes : List ℕ) → length bytes ≤ position_or_len is_line_feed bytes → onto_first b (raw_lines bytes) ≡ (b ∷ bytes) ∷ []
onto_first-no_feed b [] none = refl
onto_first-no_feed b (c ∷ bytes) none = rw (raw_lines-other c bytes none, onto_first-no_feed c bytes (grind arith)) refl

pub raw_lines-no_feed : (bytes : List ℕ) → 0 < length bytes → length bytes ≤ position_or_len is_line_feed bytes → raw_lines bytes ≡ bytes ∷ []
raw_lines-no_feed [] some none = absurd (omega arith)
raw_lines-no_feed (b ∷ bytes) some none = rw (raw_lines-other b bytes none) (onto_first-no_feed b bytes (grind arith))

-- ---- the first line
pub raw_lines-first : (bytes : List ℕ) (end : ℕ) → position is_line_feed bytes ≡ Some end → raw_lines bytes ≡ without_return (take end bytes) ∷ raw_lines (drop (end + 1) bytes)
raw_lines-first bytes end at = grind (arith, nat_tests, raw_lines-feed)

pub raw_lines-last : (bytes : List ℕ) → 0 < length bytes → position is_line_feed bytes ≡ None → raw_lines bytes ≡ bytes ∷ []
raw_lines-last bytes some none = grind (arith, nat_tests, raw_lines-no_feed)

pub ruleset first = (take_rest, raw_lines-first, raw_lines-last)
