-- The lines of a script: the first bytes of a line are enough to read it, and whole lines one after another.
use Rattle.std.proofs.Common.{◌≡◌, ◌≢◌, ℕ, ◌<◌, ◌≤◌, None, List, [], ◌∷◌, ◌++◌, length, take, All, refl, sym, ap, ◌∙◌, arith, ⊎_elim, append_assoc}
use Rattle.std.proofs.lemmas.List.Elements.{All-head, All-tail}
use Rattle.std.proofs.lemmas.Bool.{cases_lt}
use Rattle.std.proofs.lemmas.Bool.Decides.{nat_tests}
use Rattle.std.proofs.lemmas.List.{length-take, take_all}
use Rattle.mls_text.proofs.LastBytes.{length-without_return}
use Rattle.mls_text.proofs.LineLemmas.{lines_of-fed}
use Rattle.mls_text.specs.Lines.{IsUnbroken, lines_of}
use Rattle.mls_wire.specs.Lines.{onto_whole, line_if_short, whole_lines_of}

pub line_if_short-long : (line : List ℕ) → 1025 < length line → line_if_short line ≡ None
line_if_short-long line long = let h = length-without_return line in grind (arith, nat_tests)

-- its first 1026 bytes tell how a line is read
pub line_if_short-take : (line : List ℕ) → line_if_short (take 1026 line) ≡ line_if_short line
line_if_short-take line =
    ⊎_elim (λ (long : 1026 < length line). line_if_short-long (take 1026 line) (omega (arith, length-take {A = ℕ})) ∙ sym (line_if_short-long line (omega arith)))
    (λ (short : length line ≤ 1026). ap line_if_short (take_all 1026 line short))
    (cases_lt 1026 (length line))

-- a text of whole lines
abbrev pub fed : List (List ℕ) → List ℕ
fed [] = []
fed (line ∷ lines) = line ++ 10 ∷ fed lines

-- one more line
pub fed-snoc : (lines : List (List ℕ)) (line rest : List ℕ) → fed lines ++ (line ++ 10 ∷ rest) ≡ fed (lines ++ line ∷ []) ++ rest
fed-snoc [] line rest = sym (append_assoc line (10 ∷ []) rest)
fed-snoc (first ∷ lines) line rest =
    append_assoc first (10 ∷ fed lines) (line ++ 10 ∷ rest) ∙ ap (λ l. first ++ 10 ∷ l) (fed-snoc lines line rest)
    ∙ sym (append_assoc first (10 ∷ fed (lines ++ line ∷ [])) rest)

-- the lines of a text that begins with whole lines
pub lines_of-whole : (lines : List (List ℕ)) (rest : List ℕ) → All IsUnbroken lines → lines_of (fed lines ++ rest) ≡ lines ++ lines_of rest
lines_of-whole [] rest h = refl
lines_of-whole (line ∷ lines) rest h =
    ap lines_of (append_assoc line (10 ∷ fed lines) rest) ∙ lines_of-fed line (fed lines ++ rest) (All-head IsUnbroken line lines h)
    ∙ ap (λ l. line ∷ l) (lines_of-whole lines rest (All-tail IsUnbroken line lines h))

-- a byte that is no line feed comes onto the first line
whole_lines_of-more : (b : ℕ) (bytes : List ℕ) → b ≢ 10 → whole_lines_of (b ∷ bytes) ≡ onto_whole b (whole_lines_of bytes)
whole_lines_of-more b bytes h = grind (arith, nat_tests)

-- a line that is not ended
pub whole_lines_of-unbroken : (line : List ℕ) → IsUnbroken line → whole_lines_of line ≡ []
whole_lines_of-unbroken [] h = refl
whole_lines_of-unbroken (b ∷ line) h =
    whole_lines_of-more b line (All-head (λ c. c ≢ 10) b line h) ∙ ap (onto_whole b) (whole_lines_of-unbroken line (All-tail (λ c. c ≢ 10) b line h))

-- the first line ends with a line feed
pub whole_lines_of-fed : (line rest : List ℕ) → IsUnbroken line → whole_lines_of (line ++ 10 ∷ rest) ≡ line ∷ whole_lines_of rest
whole_lines_of-fed [] rest h = refl
whole_lines_of-fed (b ∷ line) rest h =
    whole_lines_of-more b (line ++ 10 ∷ rest) (All-head (λ c. c ≢ 10) b line h)
    ∙ ap (onto_whole b) (whole_lines_of-fed line rest (All-tail (λ c. c ≢ 10) b line h))

-- whole lines, and then one that is not ended
pub whole_lines_of-begun : (lines : List (List ℕ)) (begun : List ℕ) → All IsUnbroken lines → IsUnbroken begun → whole_lines_of (fed lines ++ begun) ≡ lines
whole_lines_of-begun [] begun h unbroken = whole_lines_of-unbroken begun unbroken
whole_lines_of-begun (line ∷ lines) begun h unbroken =
    ap whole_lines_of (append_assoc line (10 ∷ fed lines) begun) ∙ whole_lines_of-fed line (fed lines ++ begun) (All-head IsUnbroken line lines h)
    ∙ ap (λ l. line ∷ l) (whole_lines_of-begun lines begun (All-tail IsUnbroken line lines h) unbroken)
