-- The first token of a type list.
use Rattle.std.proofs.Common.{◌≡◌, ℕ, ◌<◌, Bool, true, false, ◌||◌, ◌==◌, if◌then◌else◌, List, [], ◌∷◌, length, get_or, take, drop, ap, ◌∙◌, arith, refl, ⊎_elim}
use Rattle.std.specs.List.{position_or_len}
use Rattle.std.proofs.Math.Numerals.{one-add}
use Rattle.std.proofs.lemmas.Bool.{cases_Bool}
use Rattle.std.proofs.lemmas.List.Sums.{prefix_len-le-length}
use Rattle.mls_tech.specs.TypeLists.{Token, Comma, Slash, Tilde, Opening, Closing, Word, onto_word, tokens_of}
use Rattle.mls_tech.specs.Inner.Tokens.{is_mark}

-- `token_onto` by the results of its tests
abbrev pub onto_by : (comma slash tilde opening closing : Bool) → ℕ → List Token → List Token
onto_by comma slash tilde opening closing b tokens =
    if comma then Comma ∷ tokens
    else (if slash then Slash ∷ tokens
    else (if tilde then Tilde ∷ tokens
    else (if opening then Opening ∷ tokens
    else (if closing then Closing ∷ tokens
    else onto_word b tokens))))

onto_by-word : (v w x y z : Bool) (b : ℕ) (tokens : List Token) → (v || w || x || y || z) ≡ false → onto_by v w x y z b tokens ≡ onto_word b tokens
onto_by-word true w x y z b tokens h = cc
onto_by-word false true x y z b tokens h = cc
onto_by-word false false true y z b tokens h = cc
onto_by-word false false false true z b tokens h = cc
onto_by-word false false false false true b tokens h = cc
onto_by-word false false false false false b tokens h = refl

-- before a mark a word ends
onto_by-mark : (v w x y z : Bool) (a b : ℕ) (tokens : List Token) → (v || w || x || y || z) ≡ true → onto_word a (onto_by v w x y z b tokens) ≡ Word (a ∷ []) ∷ onto_by v w x y z b tokens
onto_by-mark true w x y z a b tokens h = refl
onto_by-mark false true x y z a b tokens h = refl
onto_by-mark false false true y z a b tokens h = refl
onto_by-mark false false false true z a b tokens h = refl
onto_by-mark false false false false true a b tokens h = refl
onto_by-mark false false false false false a b tokens h = cc

marked : (a b : ℕ) (bytes : List ℕ) → is_mark b ≡ true → onto_word a (tokens_of (b ∷ bytes)) ≡ Word (a ∷ []) ∷ tokens_of (b ∷ bytes)
unfolding is_mark
marked a b bytes h = onto_by-mark (b == 44) (b == 47) (b == 126) (b == 40) (b == 41) a b (tokens_of bytes) h

unmarked : (b : ℕ) (bytes : List ℕ) → is_mark b ≡ false → tokens_of (b ∷ bytes) ≡ onto_word b (tokens_of bytes)
unfolding is_mark
unmarked b bytes h = onto_by-word (b == 44) (b == 47) (b == 126) (b == 40) (b == 41) b (tokens_of bytes) h

-- the bytes up to the first mark are a word
word_first : (b : ℕ) (bytes : List ℕ) → is_mark b ≡ false →
    tokens_of (b ∷ bytes) ≡ Word (take (position_or_len is_mark (b ∷ bytes)) (b ∷ bytes)) ∷ tokens_of (drop (position_or_len is_mark (b ∷ bytes)) (b ∷ bytes))
word_first b [] h = unmarked b [] h ∙ rw h refl
word_first b (c ∷ bytes) h =
    unmarked b (c ∷ bytes) h
    ∙ rw (h, one-add (position_or_len is_mark (c ∷ bytes)))
    (⊎_elim
    (λ ends. rw ends (marked b c bytes ends))
    (λ goes_on. ap (onto_word b) (word_first c bytes goes_on))
    (cases_Bool (is_mark c)))

pub tokens_of-word : (bytes : List ℕ) (d : ℕ) → 0 < length bytes → is_mark (get_or bytes 0 d) ≡ false →
    tokens_of bytes ≡ Word (take (position_or_len is_mark bytes) bytes) ∷ tokens_of (drop (position_or_len is_mark bytes) bytes)
tokens_of-word [] d more h = absurd (omega arith)
tokens_of-word (b ∷ bytes) d more h = word_first b bytes h

pub ruleset first = (tokens_of-word, prefix_len-le-length)
