-- Lines that are written, as they are read: line by line, and word by word.
use Rattle.std.proofs.Common.{◌≡◌, ◌≢◌, ℕ, ◌<◌, ◌≤◌, ◌==◌, Bool, true, false, not, ◌&&◌, List, [], ◌∷◌, ◌++◌, length, map, All, nat_le, refl, sym, ap, ◌∙◌, arith}
use Rattle.std.specs.Prelude.{if◌then◌else◌}
use Rattle.std.specs.List.{list_all}
use Rattle.std.proofs.lemmas.Bool.{and_parts, leb-true}
use Rattle.std.proofs.lemmas.Bool.Decides.{nat_tests}
use Rattle.std.proofs.lemmas.List.Elements.{All-append, All-cons, All-head, All-nil, All-tail, All-weaker}
use mathlib.Core.List.{append_assoc, append-nil}
use Rattle.mls_text.specs.Lines.{IsUnbroken, raw_lines, without_return}
use Rattle.mls_text.specs.Words.{begins_with_word, is_blank, onto_first, words_of}
use Rattle.mls_library.specs.SavedCells.{spaced, text_of}

-- ---- lines
-- the first line goes before the others
pub text_of-cons : (line : List ℕ) (lines : List (List ℕ)) → text_of (line ∷ lines) ≡ line ++ 10 ∷ text_of lines
unfolding text_of
text_of-cons line lines = append_assoc line (10 ∷ []) (text_of lines)

last_byte : (returns : Bool) (b : ℕ) (lines : List (List ℕ)) → (if returns && true then [] ∷ lines else (b ∷ []) ∷ lines) ≡ (if returns then [] else b ∷ []) ∷ lines
last_byte true b lines = refl
last_byte false b lines = refl

inner_byte : (returns : Bool) (b : ℕ) (first : List ℕ) (lines : List (List ℕ)) → (if returns && false then first ∷ lines else (b ∷ first) ∷ lines) ≡ (b ∷ first) ∷ lines
inner_byte true b first lines = refl
inner_byte false b first lines = refl

other_byte : (b : ℕ) → b ≢ 10 → (b == 10) ≡ false
other_byte b other = grind (arith, nat_tests)

-- a line that a line feed ends
raw_lines-fed : (line rest : List ℕ) → IsUnbroken line → raw_lines (line ++ 10 ∷ rest) ≡ without_return line ∷ raw_lines rest
raw_lines-fed [] rest unbroken = refl
raw_lines-fed (b ∷ []) rest unbroken = rw (other_byte b (All-head (λ c. c ≢ 10) b [] unbroken)) (last_byte (b == 13) b (raw_lines rest))
raw_lines-fed (b ∷ c ∷ line) rest unbroken =
    let others = All-tail (λ d. d ≢ 10) b (c ∷ line) unbroken in
    let first = other_byte b (All-head (λ d. d ≢ 10) b (c ∷ line) unbroken) in
    let second = other_byte c (All-head (λ d. d ≢ 10) c line others) in
    let by = λ (lines : List (List ℕ)) (feed : Bool). if b == 13 && feed then lines else onto_first b lines in
    ap (λ t. if t then [] ∷ raw_lines ((c ∷ line) ++ 10 ∷ rest) else by (raw_lines ((c ∷ line) ++ 10 ∷ rest)) (c == 10)) first
    ∙ ap (λ t. by (raw_lines ((c ∷ line) ++ 10 ∷ rest)) t) second
    ∙ ap (λ lines. by lines false) (raw_lines-fed (c ∷ line) rest others)
    ∙ inner_byte (b == 13) b (without_return (c ∷ line)) (raw_lines rest)

-- a text is read as its lines
pub raw_lines-text_of : (lines : List (List ℕ)) → All IsUnbroken lines → raw_lines (text_of lines) ≡ map without_return lines
unfolding text_of
raw_lines-text_of [] unbroken = refl
raw_lines-text_of (line ∷ lines) unbroken =
    ap raw_lines (text_of-cons line lines) ∙ raw_lines-fed line (text_of lines) (All-head IsUnbroken line lines unbroken)
    ∙ ap (λ l. without_return line ∷ l) (raw_lines-text_of lines (All-tail IsUnbroken line lines unbroken))

-- only a carriage return at the end of a line is dropped
pub without_return-append : (xs : List ℕ) (b : ℕ) (bytes : List ℕ) → without_return (b ∷ bytes) ≡ b ∷ bytes → without_return (xs ++ b ∷ bytes) ≡ xs ++ b ∷ bytes
without_return-append [] b bytes kept = kept
without_return-append (x ∷ []) b bytes kept = ap (λ l. x ∷ l) kept
without_return-append (x ∷ y ∷ xs) b bytes kept = ap (λ l. x ∷ l) (without_return-append (y ∷ xs) b bytes kept)

-- the line is read as it was written
pub record IsKept (line : List ℕ) : Type 0 where
  pub unbroken : IsUnbroken line
  pub ends : without_return line ≡ line

pub map-without_return : (lines : List (List ℕ)) → All IsKept lines → map without_return lines ≡ lines
map-without_return [] kept = refl
map-without_return (line ∷ lines) kept =
    ap (λ l. l ∷ map without_return lines) (All-head IsKept line lines kept).ends ∙ ap (λ l. line ∷ l) (map-without_return lines (All-tail IsKept line lines kept))

-- ---- words
-- a word is some bytes without blanks
pub record IsWord (word : List ℕ) : Type 0 where
  pub some : 0 < length word
  pub solid : All (λ b. is_blank b ≡ false) word

-- a word up to its end
words_of-word : (b : ℕ) (bytes rest : List ℕ) → All (λ c. is_blank c ≡ false) (b ∷ bytes) → begins_with_word rest ≡ false → words_of ((b ∷ bytes) ++ rest) ≡ (b ∷ bytes) ∷ words_of rest
words_of-word b [] rest solid ends = rw (All-head (λ c. is_blank c ≡ false) b [] solid, ends) refl
words_of-word b (c ∷ bytes) rest solid ends =
    let others = All-tail (λ d. is_blank d ≡ false) b (c ∷ bytes) solid in
    let later = words_of ((c ∷ bytes) ++ rest) in
    let by = λ (blank goes_on : Bool). if blank then later else (if goes_on then onto_first b later else (b ∷ []) ∷ later) in
    ap (λ t. by t (not (is_blank c))) (All-head (λ d. is_blank d ≡ false) b (c ∷ bytes) solid)
    ∙ ap (λ t. by false (not t)) (All-head (λ d. is_blank d ≡ false) c bytes others)
    ∙ ap (onto_first b) (words_of-word c bytes rest others ends)

-- words with spaces between them are read as these words
pub words_of-spaced : (words : List (List ℕ)) → All IsWord words → words_of (spaced words) ≡ words
words_of-spaced [] are = refl
words_of-spaced ([] ∷ words) are = absurd (omega (arith, (All-head IsWord [] words are).some))
words_of-spaced ((b ∷ bytes) ∷ []) are =
    ap words_of (sym (append-nil (b ∷ bytes))) ∙ words_of-word b bytes [] (All-head IsWord (b ∷ bytes) [] are).solid refl
words_of-spaced ((b ∷ bytes) ∷ word ∷ words) are =
    words_of-word b bytes (32 ∷ spaced (word ∷ words)) (All-head IsWord (b ∷ bytes) (word ∷ words) are).solid refl
    ∙ ap (λ l. (b ∷ bytes) ∷ l) (words_of-spaced (word ∷ words) (All-tail IsWord (b ∷ bytes) (word ∷ words) are))

-- what holds of a space and of each byte of the words holds of each byte of the line
pub All-spaced : (P : ℕ → Type 0) → P 32 → (words : List (List ℕ)) → All (λ word. All P word) words → All P (spaced words)
All-spaced P space [] are = All-nil P
All-spaced P space (word ∷ []) are = All-head (λ w. All P w) word [] are
All-spaced P space (word ∷ next ∷ words) are =
    All-append P word (32 ∷ spaced (next ∷ words)) (All-head (λ w. All P w) word (next ∷ words) are)
    (All-cons P 32 (spaced (next ∷ words)) space (All-spaced P space (next ∷ words) (All-tail (λ w. All P w) word (next ∷ words) are)))

-- ---- plain words: no byte below `-`
abbrev pub IsPlain : List ℕ → Type 0
IsPlain word = All (λ b. 45 ≤ b) word

pub IsWord-plain : (word : List ℕ) → 0 < length word → IsPlain word → IsWord word
IsWord-plain word some plain = record { some = some; solid = All-weaker (λ b. 45 ≤ b) (λ b. is_blank b ≡ false) (λ b above. grind (arith, nat_tests)) word plain }

without_return-none : (line : List ℕ) → All (λ b. b ≢ 13) line → without_return line ≡ line
without_return-none [] none = refl
without_return-none (b ∷ []) none =
    let other : b ≢ 13 = All-head (λ c. c ≢ 13) b [] none in
    let t : (b == 13) ≡ false = grind (arith, nat_tests) in
    rw t refl
without_return-none (b ∷ c ∷ line) none = ap (λ l. b ∷ l) (without_return-none (c ∷ line) (All-tail (λ d. d ≢ 13) b (c ∷ line) none))

pub IsKept-plain : (words : List (List ℕ)) → All IsPlain words → IsKept (spaced words)
IsKept-plain words plain =
    let above = All-spaced (λ b. 32 ≤ b) (omega arith) words (All-weaker IsPlain (λ w. All (λ b. 32 ≤ b) w) (λ w. All-weaker (λ b. 45 ≤ b) (λ b. 32 ≤ b) (λ b h. omega (arith, h)) w) words plain) in
    record {
      unbroken = All-weaker (λ b. 32 ≤ b) (λ b. b ≢ 10) (λ b h same. omega (arith, h, same)) (spaced words) above;
      ends = without_return-none (spaced words) (All-weaker (λ b. 32 ≤ b) (λ b. b ≢ 13) (λ b h same. omega (arith, h, same)) (spaced words) above);
    }

-- a word whose bytes were tested
pub IsPlain-test : (word : List ℕ) → list_all (nat_le 45) word ≡ true → IsPlain word
IsPlain-test [] tested = All-nil (λ b. 45 ≤ b)
IsPlain-test (b ∷ bytes) tested =
    let parts = and_parts (nat_le 45 b) (list_all (nat_le 45) bytes) tested in
    All-cons (λ c. 45 ≤ c) b bytes (leb-true 45 b parts.0) (IsPlain-test bytes parts.1)
