-- The first line of a text with its carriage return, and the lines after its line feed.
use Rattle.std.proofs.Common.{◌≡◌, ◌≢◌, ℕ, ◌+◌, ◌<◌, ◌≤◌, ◌==◌, Some, None, List, [], ◌∷◌, ◌++◌, length, take, drop, position, sym, refl, ap, ◌∙◌, arith}
use Rattle.std.proofs.lemmas.List.Elements.{All-head, All-tail, All-from_get_or}
use Rattle.std.proofs.lemmas.Bool.{eqb-true, eqb-false}
use Rattle.std.proofs.lemmas.Bool.Decides.{nat_tests}
use Rattle.std.proofs.lemmas.List.{length-take, take-append-drop, drop_more, get_or-take}
use Rattle.std.proofs.lemmas.List.Quantifiers.{position-Some}
use Rattle.std.proofs.lemmas.List.Sums.{fails_before_first}
use Rattle.std.specs.List.{position_or_len}
use Rattle.mls_text.specs.Lines.{IsUnbroken, lines_of, onto_first}

-- the bytes before the first line feed, and those after it
pub split_at_feed : (bytes : List ℕ) (count : ℕ) → Some count ≡ position (λ b. b == 10) bytes
    → IsUnbroken (take count bytes) × (bytes ≡ take count bytes ++ 10 ∷ drop (count + 1) bytes)
split_at_feed bytes count at =
    let (within, feed, before) = position-Some (λ b. b == 10) bytes count 0 (sym at) in
    let rest = drop_more bytes count 0 within ∙ ap (λ b. b ∷ drop (count + 1) bytes) (eqb-true _ _ feed) in (
      All-from_get_or (λ b. b ≢ 10) (take count bytes) 0
          (λ k h. let below : k < count = omega (arith, length-take {A = ℕ}) in rw get_or-take (eqb-false _ _ (before k below))),
      sym (take-append-drop count bytes) ∙ ap (λ l. take count bytes ++ l) rest,
    )

-- there is no line feed
pub unbroken_None : (bytes : List ℕ) → None ≡ position (λ b. b == 10) bytes → IsUnbroken bytes
unbroken_None bytes none =
    let past : length bytes ≤ position_or_len (λ b. b == 10) bytes = grind (arith, nat_tests) in
    All-from_get_or (λ b. b ≢ 10) bytes 0 (λ k h. eqb-false _ _ (fails_before_first (λ b. b == 10) bytes k 0 (omega arith)))

-- a byte that is no line feed comes onto the first line
pub lines_of-more : (b : ℕ) (bytes : List ℕ) → b ≢ 10 → lines_of (b ∷ bytes) ≡ onto_first b (lines_of bytes)
lines_of-more b bytes h = grind (arith, nat_tests)

-- the first line ends with a line feed
pub lines_of-fed : (line rest : List ℕ) → IsUnbroken line → lines_of (line ++ 10 ∷ rest) ≡ line ∷ lines_of rest
lines_of-fed [] rest h = refl
lines_of-fed (b ∷ line) rest h =
    lines_of-more b (line ++ 10 ∷ rest) (All-head (λ c. c ≢ 10) b line h)
    ∙ ap (onto_first b) (lines_of-fed line rest (All-tail (λ c. c ≢ 10) b line h))

-- the only line ends with the text
pub lines_of-last : (line : List ℕ) → IsUnbroken line → 0 < length line → lines_of line ≡ line ∷ []
lines_of-last [] h some = absurd (omega arith)
lines_of-last (b ∷ []) h some = lines_of-more b [] (All-head (λ c. c ≢ 10) b [] h)
lines_of-last (b ∷ c ∷ line) h some =
    lines_of-more b (c ∷ line) (All-head (λ d. d ≢ 10) b (c ∷ line) h)
    ∙ ap (onto_first b) (lines_of-last (c ∷ line) (All-tail (λ d. d ≢ 10) b (c ∷ line) h) (omega arith))
