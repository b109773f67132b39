-- Lines that are written are read as they were, to their last byte.
use Rattle.std.proofs.Common.{◌≡◌, ◌≢◌, ℕ, suc, ◌+◌, ◌<◌, ◌≤◌, ◌==◌, Bool, true, false, cond, List, [], ◌∷◌, ◌++◌, length, length-append, append_assoc, Some, None, Result, Ok, Err, OnErr, OnOk, inl, inr, refl, sym, ap, subst, ◌∙◌, ⊎_elim, arith}
use Rattle.std.specs.Prelude.{◌⊎◌, nat_lt}
use Rattle.std.proofs.lemmas.Bool.Decides.{nat_tests}
use Rattle.std.proofs.lemmas.List.Elements.{All-cons, All-head, All-nil, All-tail}
use Rattle.mls_server.proofs.mls_library.SavedLines.{IsKept-plain, IsPlain, without_return-append}
use Rattle.mls_text.specs.Lines.{IsUnbroken, without_return}
use Rattle.mls_text.specs.Words.{begins_with_word, is_blank, onto_first, words_of}
use Rattle.mls_wire.specs.JournalLines.{shielded, shielded_after}
use Rattle.mls_wire.specs.Lines.{line_limit, line_if_short}

-- ---- a carriage return at the end
-- the line is read as it is
kept-after : (b : ℕ) (bytes : List ℕ) → without_return (b ∷ shielded_after b bytes) ≡ b ∷ shielded_after b bytes
kept-after b [] = by (b == 13) refl
  where
    by : (returns : Bool) → (b == 13) ≡ returns → without_return (b ∷ cond returns (32 ∷ []) []) ≡ b ∷ cond returns (32 ∷ []) []
    by true is = refl
    by false is = rw is refl
kept-after b (c ∷ bytes) = ap (λ (l : List ℕ). b ∷ l) (kept-after c bytes)

pub kept-shielded : (front : List ℕ) (b : ℕ) (bytes : List ℕ) → without_return (front ++ shielded (b ∷ bytes)) ≡ front ++ shielded (b ∷ bytes)
kept-shielded front b bytes = without_return-append front b (shielded_after b bytes) (kept-after b bytes)

length-after : (b : ℕ) (bytes : List ℕ) → length (shielded_after b bytes) ≤ suc (length bytes)
length-after b [] = by (b == 13)
  where
    by : (returns : Bool) → length {A = ℕ} (cond returns (32 ∷ []) []) ≤ 1
    by true = omega arith
    by false = omega arith
length-after b (c ∷ bytes) = let later = length-after c bytes in omega (arith, later)

pub length-shielded : (bytes : List ℕ) → length (shielded bytes) ≤ suc (length bytes)
length-shielded [] = omega arith
length-shielded (b ∷ bytes) = let later = length-after b bytes in omega (arith, later)

-- a space follows, or nothing
after-is : (b : ℕ) (bytes : List ℕ) → (shielded_after b bytes ≡ bytes) ⊎ (shielded_after b bytes ≡ bytes ++ 32 ∷ [])
after-is b [] = by (b == 13)
  where
    by : (returns : Bool) → (cond {A = List ℕ} returns (32 ∷ []) [] ≡ []) ⊎ (cond {A = List ℕ} returns (32 ∷ []) [] ≡ 32 ∷ [])
    by true = inr refl
    by false = inl refl
after-is b (c ∷ bytes) =
    ⊎_elim (λ same. inl (ap (λ (l : List ℕ). c ∷ l) same)) (λ more. inr (ap (λ (l : List ℕ). c ∷ l) more)) (after-is c bytes)

begins-space : (bytes : List ℕ) → begins_with_word (bytes ++ 32 ∷ []) ≡ begins_with_word bytes
begins-space [] = refl
begins-space (b ∷ bytes) = refl

-- a space at the end adds no word
words_of-space : (bytes : List ℕ) → words_of (bytes ++ 32 ∷ []) ≡ words_of bytes
words_of-space [] = refl
words_of-space (b ∷ bytes) =
    let later = words_of-space bytes in
    ap (λ (words : List (List ℕ)). cond (is_blank b) words (cond (begins_with_word (bytes ++ 32 ∷ [])) (onto_first b words) ((b ∷ []) ∷ words))) later
    ∙ ap (λ (t : Bool). cond (is_blank b) (words_of bytes) (cond t (onto_first b (words_of bytes)) ((b ∷ []) ∷ words_of bytes))) (begins-space bytes)

pub words_of-shielded : (front : List ℕ) (b : ℕ) (bytes : List ℕ) → words_of (front ++ shielded (b ∷ bytes)) ≡ words_of (front ++ b ∷ bytes)
words_of-shielded front b bytes =
    ⊎_elim
    (λ (same : shielded_after b bytes ≡ bytes). ap (λ (l : List ℕ). words_of (front ++ b ∷ l)) same)
    (λ (more : shielded_after b bytes ≡ bytes ++ 32 ∷ []).
    ap (λ (l : List ℕ). words_of (front ++ b ∷ l)) more
    ∙ ap words_of (sym (append_assoc front (b ∷ bytes) (32 ∷ [])))
    ∙ words_of-space (front ++ b ∷ bytes))
    (after-is b bytes)

-- a space is appended behind the rest
after-append : (b : ℕ) (front : List ℕ) (c : ℕ) (bytes : List ℕ) → shielded_after b (front ++ c ∷ bytes) ≡ front ++ shielded (c ∷ bytes)
after-append b [] c bytes = refl
after-append b (d ∷ front) c bytes = ap (λ (l : List ℕ). d ∷ l) (after-append d front c bytes)

pub shielded-append : (front : List ℕ) (c : ℕ) (bytes : List ℕ) → shielded (front ++ c ∷ bytes) ≡ front ++ shielded (c ∷ bytes)
shielded-append [] c bytes = refl
shielded-append (b ∷ front) c bytes = ap (λ (l : List ℕ). b ∷ l) (after-append b front c bytes)

-- a space is no line feed
unbroken-after : (b : ℕ) (bytes : List ℕ) → IsUnbroken bytes → IsUnbroken (shielded_after b bytes)
unbroken-after b [] whole = by (b == 13)
  where
    by : (returns : Bool) → IsUnbroken (cond {A = List ℕ} returns (32 ∷ []) [])
    by true = All-cons (λ c. c ≢ 10) 32 [] (λ same. omega (arith, same)) (All-nil (λ c. c ≢ 10))
    by false = All-nil (λ c. c ≢ 10)
unbroken-after b (c ∷ bytes) whole =
    All-cons (λ d. d ≢ 10) c (shielded_after c bytes) (All-head (λ d. d ≢ 10) c bytes whole) (unbroken-after c bytes (All-tail (λ d. d ≢ 10) c bytes whole))

pub unbroken-shielded : (b : ℕ) (bytes : List ℕ) → IsUnbroken (b ∷ bytes) → IsUnbroken (shielded (b ∷ bytes))
unbroken-shielded b bytes whole =
    All-cons (λ c. c ≢ 10) b (shielded_after b bytes) (All-head (λ c. c ≢ 10) b bytes whole) (unbroken-after b bytes (All-tail (λ c. c ≢ 10) b bytes whole))

-- ---- lines without one
pub without_return-word : (front word : List ℕ) → 0 < length word → IsPlain word → without_return (front ++ 32 ∷ word) ≡ front ++ 32 ∷ word
without_return-word front [] some plain = absurd (omega (arith, some))
without_return-word front (b ∷ word) some plain =
    let ends = (IsKept-plain ((b ∷ word) ∷ []) (All-cons IsPlain (b ∷ word) [] plain (All-nil IsPlain))).ends in
    without_return-append front 32 (b ∷ word) (without_return-append (32 ∷ []) b word ends)

-- a line that isn't too long
pub line_if_short-kept : (line : List ℕ) → without_return line ≡ line → length line ≤ line_limit → line_if_short line ≡ Some line
line_if_short-kept line kept short =
    let within : nat_lt line_limit (length line) ≡ false = grind (arith, nat_tests, short) in
    ap (λ (l : List ℕ). cond (nat_lt line_limit (length l)) None (Some l)) kept ∙ ap (λ (t : Bool). cond t None (Some line)) within

-- ---- by what a reader of lines would drop
dropped-after : (b : ℕ) (bytes : List ℕ) → length (without_return (b ∷ bytes)) < suc (length bytes) → b ∷ shielded_after b bytes ≡ b ∷ bytes ++ 32 ∷ []
dropped-after b [] less = by (b == 13) less
  where
    by : (returns : Bool) → length {A = ℕ} (cond returns [] (b ∷ [])) < 1 → b ∷ cond {A = List ℕ} returns (32 ∷ []) [] ≡ b ∷ 32 ∷ []
    by true less = refl
    by false less = absurd (omega (arith, less))
dropped-after b (c ∷ bytes) less = ap (λ (l : List ℕ). b ∷ l) (dropped-after c bytes (omega (arith, less)))

kept-whole : (b : ℕ) (bytes : List ℕ) → suc (length bytes) ≤ length (without_return (b ∷ bytes)) → b ∷ shielded_after b bytes ≡ b ∷ bytes
kept-whole b [] all = by (b == 13) all
  where
    by : (returns : Bool) → 1 ≤ length {A = ℕ} (cond returns [] (b ∷ [])) → b ∷ cond {A = List ℕ} returns (32 ∷ []) [] ≡ b ∷ []
    by true all = absurd (omega (arith, all))
    by false all = refl
kept-whole b (c ∷ bytes) all = ap (λ (l : List ℕ). b ∷ l) (kept-whole c bytes (omega (arith, all)))

pub shielded-dropped : (line : List ℕ) → length (without_return line) < length line → shielded line ≡ line ++ 32 ∷ []
shielded-dropped [] less = absurd (omega (arith, less))
shielded-dropped (b ∷ bytes) less = dropped-after b bytes less

pub shielded-whole : (line : List ℕ) → length line ≤ length (without_return line) → shielded line ≡ line
shielded-whole [] all = refl
shielded-whole (b ∷ bytes) all = kept-whole b bytes all

pub length-dropped : (line rest : List ℕ) → rest ≡ without_return line → length rest < length line → length (shielded line) ≡ length line + 1
length-dropped line rest is less = ap length (shielded-dropped line (omega (arith, ap length is, less))) ∙ length-append line (32 ∷ [])

pub ruleset shields = (shielded-dropped, shielded-whole)

-- ---- appended
above-after : (b : ℕ) (bytes : List ℕ) → length bytes ≤ length (shielded_after b bytes)
above-after b [] = omega arith
above-after b (c ∷ bytes) = let later = above-after c bytes in omega (arith, later)

module _ {T E : Type 0} (r : Result T E) (old mid : List ℕ) (b : ℕ) (bytes : List ℕ) (said : mid ≡ old ++ b ∷ bytes) where
  shielded-said : shielded mid ≡ old ++ shielded (b ∷ bytes)
  shielded-said = ap shielded said ∙ shielded-append old b bytes

  pub on_ok-shielded : (new : List ℕ) → OnOk r (new ≡ shielded mid) → OnOk r (new ≡ old ++ shielded (b ∷ bytes))
  on_ok-shielded new is = subst (λ (l : List ℕ). OnOk r (new ≡ l)) shielded-said is

  pub on_err-shielded : (capacity grown len : ℕ) → len ≡ length old → capacity ≤ grown → OnErr r (grown < length (shielded mid)) → OnErr r (capacity < len + length (shielded (b ∷ bytes)))
  on_err-shielded capacity grown len before grows lacks = by r lacks
    where
      by : (result : Result T E) → OnErr result (grown < length (shielded mid)) → OnErr result (capacity < len + length (shielded (b ∷ bytes)))
      by (Ok x) less = tt
      by (Err e) less = let whole = ap length shielded-said in let parts = length-append old (shielded (b ∷ bytes)) in omega (arith, less, whole, parts, before, grows)

-- what has no room has none with a space
pub lacks-shielded : (capacity len b : ℕ) (bytes : List ℕ) → capacity < len + length (b ∷ bytes) → capacity < len + length (shielded (b ∷ bytes))
lacks-shielded capacity len b bytes lacks = let above = above-after b bytes in omega (arith, lacks, above)
