-- No line of a file has a line feed, nor has a word of one.
use Rattle.std.proofs.Common.{◌≡◌, ◌≢◌, ◌+◌, ◌==◌, ◌&&◌, ℕ, List, [], ◌∷◌, ◌++◌, sym, arith}
use Rattle.std.specs.Prelude.{All}
use Rattle.std.proofs.lemmas.Bool.{cond_both, eqb-false}
use Rattle.std.proofs.lemmas.List.Elements.{All-nil, All-cons, All-head, All-tail, All-append, All-same}
use Rattle.mls_tech.specs.FileLines.{NumberedLine, goes_on, with_blank, joined_to, joined_from}
use Rattle.mls_text.specs.Lines.{IsUnbroken, raw_lines}
use Rattle.mls_text.specs.Words.{onto_first, begins_with, begins_with_word, is_blank, words_of}

-- ---- bytes in front of a line
unbroken-cons : (b : ℕ) (bytes : List ℕ) → b ≢ 10 → IsUnbroken bytes → IsUnbroken (b ∷ bytes)
unbroken-cons b bytes = All-cons (λ c. c ≢ 10) b bytes

onto_first-unbroken : (b : ℕ) (lines : List (List ℕ)) → b ≢ 10 → All IsUnbroken lines → All IsUnbroken (onto_first b lines)
onto_first-unbroken b [] other all = All-cons IsUnbroken (b ∷ []) [] (unbroken-cons b [] other (All-nil (λ c. c ≢ 10))) all
onto_first-unbroken b (first ∷ lines) other all =
    All-cons IsUnbroken (b ∷ first) lines (unbroken-cons b first other (All-head IsUnbroken first lines all)) (All-tail IsUnbroken first lines all)

-- ---- the words of a line
words_of-unbroken : (line : List ℕ) → IsUnbroken line → All IsUnbroken (words_of line)
words_of-unbroken [] unbroken = All-nil IsUnbroken
words_of-unbroken (b ∷ bytes) unbroken =
    let other : b ≢ 10 = All-head (λ c. c ≢ 10) b bytes unbroken in
    let words : All IsUnbroken (words_of bytes) = words_of-unbroken bytes (All-tail (λ c. c ≢ 10) b bytes unbroken) in
    cond_both (is_blank b) _ _ (All IsUnbroken)
    (λ blank. words)
    (λ solid. cond_both (begins_with_word bytes) _ _ (All IsUnbroken)
    (λ goes_on. onto_first-unbroken b (words_of bytes) other words)
    (λ ends. All-cons IsUnbroken (b ∷ []) (words_of bytes) (unbroken-cons b [] other (All-nil (λ c. c ≢ 10))) words))

pub first_word-unbroken : (line word : List ℕ) (words : List (List ℕ)) → words_of line ≡ word ∷ words → IsUnbroken line → IsUnbroken word
first_word-unbroken line word words begins unbroken =
    All-head IsUnbroken word words (All-same IsUnbroken _ _ (sym begins) (words_of-unbroken line unbroken))

-- ---- the lines of a file, as they stand there
raw_lines-unbroken : (bytes : List ℕ) → All IsUnbroken (raw_lines bytes)
raw_lines-unbroken [] = All-nil IsUnbroken
raw_lines-unbroken (b ∷ bytes) =
    cond_both (b == 10) _ _ (All IsUnbroken)
    (λ feed. All-cons IsUnbroken [] (raw_lines bytes) (All-nil (λ c. c ≢ 10)) (raw_lines-unbroken bytes))
    (λ other. cond_both (b == 13 && begins_with 10 bytes) _ _ (All IsUnbroken)
    (λ dropped. raw_lines-unbroken bytes)
    (λ kept. onto_first-unbroken b (raw_lines bytes) (eqb-false _ _ other) (raw_lines-unbroken bytes)))

-- ---- joined lines
abbrev IsUnbrokenLine : NumberedLine → Type 0
IsUnbrokenLine line = IsUnbroken line.bytes

with_blank-unbroken : (line : List ℕ) → IsUnbroken line → IsUnbroken (with_blank line)
with_blank-unbroken [] unbroken = unbroken
with_blank-unbroken (b ∷ []) unbroken = unbroken-cons 32 [] (λ same. absurd (omega arith)) (All-nil (λ c. c ≢ 10))
with_blank-unbroken (b ∷ c ∷ line) unbroken =
    unbroken-cons b (with_blank (c ∷ line)) (All-head (λ d. d ≢ 10) b (c ∷ line) unbroken) (with_blank-unbroken (c ∷ line) (All-tail (λ d. d ≢ 10) b (c ∷ line) unbroken))

joined_to-unbroken : (n : ℕ) (text : List ℕ) (lines : List NumberedLine) → IsUnbroken text → All IsUnbrokenLine lines → All IsUnbrokenLine (joined_to n text lines)
joined_to-unbroken n text [] unbroken all = All-cons IsUnbrokenLine (record { line = n; bytes = text }) [] unbroken all
joined_to-unbroken n text (first ∷ lines) unbroken all =
    All-cons IsUnbrokenLine (record { line = n; bytes = text ++ first.bytes }) lines
    (All-append (λ b. b ≢ 10) text first.bytes unbroken (All-head IsUnbrokenLine first lines all)) (All-tail IsUnbrokenLine first lines all)

joined_from-unbroken : (n : ℕ) (lines : List (List ℕ)) → All IsUnbroken lines → All IsUnbrokenLine (joined_from n lines)
joined_from-unbroken n [] all = All-nil IsUnbrokenLine
joined_from-unbroken n (raw ∷ lines) all =
    let first : IsUnbroken raw = All-head IsUnbroken raw lines all in
    let others : All IsUnbrokenLine (joined_from (n + 1) lines) = joined_from-unbroken (n + 1) lines (All-tail IsUnbroken raw lines all) in
    cond_both (goes_on raw) _ _ (All IsUnbrokenLine)
    (λ joins. joined_to-unbroken n (with_blank raw) _ (with_blank-unbroken raw first) others)
    (λ ends. All-cons IsUnbrokenLine (record { line = n; bytes = raw }) _ first others)

-- the first of a file's joined lines
pub first_line-unbroken : (n m : ℕ) (bytes line : List ℕ) (lines : List NumberedLine) → joined_from n (raw_lines bytes) ≡ record { line = m; bytes = line } ∷ lines → IsUnbroken line
first_line-unbroken n m bytes line lines begins =
    All-head IsUnbrokenLine (record { line = m; bytes = line }) lines
    (All-same IsUnbrokenLine _ _ (sym begins) (joined_from-unbroken n (raw_lines bytes) (raw_lines-unbroken bytes)))
