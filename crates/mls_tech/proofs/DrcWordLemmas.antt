-- The first word of a line of `drc`, and the words after it.
use Rattle.std.proofs.Common.{◌≡◌, ℕ, ◌+◌, ◌<◌, ◌≤◌, true, false, not, ltb, Option, Some, None, List, [], ◌∷◌, ◌++◌, length, take, drop, refl, append_assoc, arith}
use Rattle.std.specs.Borrow.{Bor}
use Rattle.std.specs.List.{prefix_len, position, position_or_len, before_first, after_first}
use Rattle.std.specs.Option.{option_map}
use Rattle.std.proofs.Math.Numerals.{one-add, add-one}
use Rattle.std.proofs.lemmas.Bool.{cond_both, ltb-true, ltb-false, not-true, not-false}
use Rattle.std.proofs.lemmas.Option.{cond_some}
use Rattle.std.proofs.lemmas.List.{append-nil, map-append, take_rest}
use Rattle.std.proofs.lemmas.List.Sums.{prefix_len-le-length}
use Rattle.mls_tech.specs.DrcLines.{Between, Bare, Quoted, is_quote, word_before, words_from}
use Rattle.mls_tech.specs.Inner.DrcViews.{word_bytes}
use Rattle.mls_text.specs.Words.{is_blank, begins_with, begins_with_word}
use Rattle.mls_text.proofs.WordLemmas.{begins_with_word-drop_blanks}

-- blanks in front are left out
pub words_from-drop_blanks : (bytes : List ℕ) → words_from Between (drop (prefix_len is_blank bytes) bytes) ≡ words_from Between bytes
words_from-drop_blanks [] = refl
words_from-drop_blanks (b ∷ bytes) =
    cond_both (is_blank b) _ 0 (λ n. words_from Between (drop n (b ∷ bytes)) ≡ words_from Between (b ∷ bytes))
    (λ blank. rw (one-add, blank) (words_from-drop_blanks bytes))
    (λ solid. refl)

-- a bare word goes up to the first blank
words_from-Bare : (word bytes : List ℕ) → words_from (Bare word) bytes ≡ word_before (word ++ before_first is_blank bytes) (words_from Between (drop (position_or_len is_blank bytes) bytes))
words_from-Bare word [] = rw append-nil refl
words_from-Bare word (b ∷ bytes) =
    cond_both (not (is_blank b)) _ 0 (λ n. words_from (Bare word) (b ∷ bytes) ≡ word_before (word ++ take n (b ∷ bytes)) (words_from Between (drop n (b ∷ bytes))))
    (λ solid. rw (one-add, not-true _ solid) (rw append_assoc at (words_from-Bare (word ++ b ∷ []) bytes)))
    (λ blank. rw (append-nil, not-false _ blank) refl)

-- and so does a line that begins with one
pub words_from-bare : (bytes : List ℕ) → begins_with_word bytes ≡ true → begins_with 34 bytes ≡ false → words_from Between bytes ≡ word_before (before_first is_blank bytes) (words_from Between (drop (position_or_len is_blank bytes) bytes))
words_from-bare [] word bare = cc
words_from-bare (b ∷ bytes) word bare = rw (one-add, not-true _ word, bare) (words_from-Bare (b ∷ []) bytes)

-- a quoted word goes up to the first quote
words_from-Quoted : (word bytes : List ℕ) → position_or_len is_quote bytes < length bytes → words_from (Quoted word) bytes ≡ word_before (word ++ before_first is_quote bytes) (words_from Between (after_first is_quote bytes))
words_from-Quoted word [] within = absurd (omega arith)
words_from-Quoted word (b ∷ bytes) within =
    cond_both (not (is_quote b)) _ 0 (λ n. n < length (b ∷ bytes) → words_from (Quoted word) (b ∷ bytes) ≡ word_before (word ++ take n (b ∷ bytes)) (words_from Between (drop (n + 1) (b ∷ bytes))))
    (λ other inner. rw (one-add, add-one, not-true _ other) (rw (append_assoc, add-one) at (words_from-Quoted (word ++ b ∷ []) bytes (omega arith))))
    (λ quote _. rw (append-nil, not-false _ quote) refl) within

-- and without one there are no words
words_from-Quoted-none : (word bytes : List ℕ) → length bytes ≤ position_or_len is_quote bytes → words_from (Quoted word) bytes ≡ None
words_from-Quoted-none word [] past = refl
words_from-Quoted-none word (b ∷ bytes) past =
    cond_both (not (is_quote b)) _ 0 (λ n. length (b ∷ bytes) ≤ n → words_from (Quoted word) (b ∷ bytes) ≡ None)
    (λ other beyond. rw (not-true _ other) (words_from-Quoted-none (word ++ b ∷ []) bytes (omega arith)))
    (λ quote none. absurd (omega arith)) past

-- the same by the place of the first quote
pub words_from-quoted : (bytes : List ℕ) (len : ℕ) → position is_quote bytes ≡ Some len → words_from (Quoted []) bytes ≡ word_before (take len bytes) (words_from Between (drop (len + 1) bytes))
words_from-quoted bytes len here =
    let found = cond_some (ltb (position_or_len is_quote bytes) (length bytes)) _ len here in
    rw found.1 at (words_from-Quoted [] bytes (ltb-true _ _ found.0))

pub words_from-unclosed : (bytes : List ℕ) → position is_quote bytes ≡ None → words_from (Quoted []) bytes ≡ None
words_from-unclosed bytes =
    cond_both (ltb (position_or_len is_quote bytes) (length bytes)) (Some (position_or_len is_quote bytes)) None (λ place. place ≡ None → words_from (Quoted []) bytes ≡ None)
    (λ within none. absurd cc)
    (λ past none. words_from-Quoted-none [] bytes (ltb-false _ _ past))

-- one word more is read
pub word_bytes-push : (words : List (Bor (List ℕ))) (word : Bor (List ℕ)) (found rest : Option (List (List ℕ))) → found ≡ word_before word.now rest → option_map (λ others. word_bytes words ++ others) found ≡ option_map (λ others. word_bytes (words ++ word ∷ []) ++ others) rest
word_bytes-push words word found None begins = rw begins refl
word_bytes-push words word found (Some others) begins = rw (begins, map-append, append_assoc) refl

pub ruleset blanks = (take_rest, words_from-drop_blanks, begins_with_word-drop_blanks, prefix_len-le-length)

pub ruleset bare = (words_from-bare, prefix_len-le-length)

pub ruleset quoted = (take_rest, words_from-quoted, words_from-unclosed)
