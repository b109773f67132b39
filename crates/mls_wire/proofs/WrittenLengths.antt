-- What is written is no longer than what was read.
use Rattle.std.proofs.Common.{◌≡◌, ℕ, ℤ, pos, neg_ℤ, zero, suc, ◌+◌, ◌-◌, ◌*◌, ◌<◌, ◌≤◌, ◌^◌, ◌==◌, ◌||◌, ◌&&◌, Bool, true, false, not, cond, List, [], ◌∷◌, length, length-append, map, Option, Some, None, IfSome, nat_le, refl, sym, ap, subst, arith, rules}
use Rattle.std.specs.Fmt.{decimal, signed_decimal}
use Rattle.std.specs.List.{filter, fold, join_with_byte, list_all, list_any, range_with_len}
use Rattle.std.specs.Option.{option_map, option_map_or}
use Rattle.std.proofs.lemmas.Bool.{and_parts, cond_both, eqb-true, leb-true}
use Rattle.std.proofs.lemmas.Bool.Decides.{nat_tests}
use Rattle.std.proofs.lemmas.Fmt.{length-decimal-le}
use Rattle.std.proofs.lemmas.Str.Parse.{IsNumeralModel, digits_value_short, numerals_by_fold}
use Rattle.mls_text.specs.Digits.{is_digit, is_number, value_at_most, value_of}
use Rattle.mls_text.specs.Fields.{fields_of}
use Rattle.mls_text.specs.Words.{begins_with_word, is_blank, onto_first, words_of}
use Rattle.mls_wire.specs.Numbers.{magnitude_of, number_of}

-- how many bytes words have, and one for each
abbrev pub width : List (List ℕ) → ℕ
width [] = 0
width (word ∷ words) = suc (length word + width words)

-- ---- words and fields

width-onto_some : (b first : ℕ) (bytes : List ℕ) → is_blank first ≡ false → width (onto_first b (words_of (first ∷ bytes))) ≡ suc (width (words_of (first ∷ bytes)))
width-onto_some b first bytes solid =
    rw solid (cond_both (begins_with_word bytes) (onto_first first (words_of bytes)) ((first ∷ []) ∷ words_of bytes) (λ words. width (onto_first b words) ≡ suc (width words))
    (λ _. by (words_of bytes)) (λ _. omega arith))
  where
    by : (words : List (List ℕ)) → width (onto_first b (onto_first first words)) ≡ suc (width (onto_first first words))
    by [] = refl
    by (word ∷ words) = omega arith

-- a line is as long as its words
pub width-words_of : (bytes : List ℕ) → width (words_of bytes) ≤ suc (length bytes)
width-words_of [] = omega arith
width-words_of (b ∷ []) =
    cond_both (is_blank b) [] ((b ∷ []) ∷ []) (λ words. width words ≤ 2) (λ _. omega arith) (λ _. omega arith)
width-words_of (b ∷ c ∷ bytes) =
    let later = width-words_of (c ∷ bytes) in
    let rest = width-words_of bytes in
    cond_both (is_blank b) (words_of (c ∷ bytes)) (cond (begins_with_word (c ∷ bytes)) (onto_first b (words_of (c ∷ bytes))) ((b ∷ []) ∷ words_of (c ∷ bytes)))
    (λ words. width words ≤ suc (suc (suc (length bytes))))
    (λ _. omega (arith, later))
    (λ _. by (is_blank c) refl later rest)
  where
    by : (blank : Bool) → is_blank c ≡ blank → width (words_of (c ∷ bytes)) ≤ suc (suc (length bytes)) → width (words_of bytes) ≤ suc (length bytes)
        → width (cond (begins_with_word (c ∷ bytes)) (onto_first b (words_of (c ∷ bytes))) ((b ∷ []) ∷ words_of (c ∷ bytes))) ≤ suc (suc (suc (length bytes)))
    by true is later rest = rw is (omega (arith, rest))
    by false is later rest =
        let onto = width-onto_some b c bytes is in
        let whole : width (onto_first b (words_of (c ∷ bytes))) ≤ suc (suc (suc (length bytes))) = omega (arith, onto, later) in
        subst (λ (t : Bool). width (cond t (onto_first b (words_of (c ∷ bytes))) ((b ∷ []) ∷ words_of (c ∷ bytes))) ≤ suc (suc (suc (length bytes)))) (sym (ap not is)) whole

-- and a list of fields exactly
pub width-fields_of : (text : List ℕ) → width (fields_of text) ≡ suc (length text)
width-fields_of [] = refl
width-fields_of (b ∷ text) =
    let later = width-fields_of text in
    cond_both (b == 44) ([] ∷ fields_of text) (onto_first b (fields_of text)) (λ fields. width fields ≡ suc (suc (length text)))
    (λ _. omega (arith, later)) (λ _. by (fields_of text) later)
  where
    by : (fields : List (List ℕ)) → width fields ≡ suc (length text) → width (onto_first b fields) ≡ suc (suc (length text))
    by [] later = absurd (omega (arith, later))
    by (field ∷ fields) later = omega (arith, later)

-- joined by a byte
pub length-joined : (b : ℕ) (word : List ℕ) (words : List (List ℕ)) → suc (length (join_with_byte b (word ∷ words))) ≡ width (word ∷ words)
length-joined b word [] = omega arith
length-joined b word (next ∷ words) =
    let later = length-joined b next words in
    let both = length-append word (b ∷ join_with_byte b (next ∷ words)) in
    omega (arith, later, both)

-- ---- numbers
digits_model : IsNumeralModel (λ ds. list_all is_digit ds ≡ true) value_of
digits_model = numerals_by_fold _ (search rules) (λ n ds. fold (λ m b. 10 * m + (b - 48)) n ds) (search rules)

is_number-some : (word : List ℕ) → is_number word ≡ true → (0 < length word) × (list_all is_digit word ≡ true)
is_number-some [] number = absurd cc
is_number-some (b ∷ word) number = (omega arith, number)

-- the digits of a value are no more than those it was read from
length-value : (word : List ℕ) → is_number word ≡ true → value_of word < 2 ^ 64 → length (decimal (value_of word)) ≤ length word
length-value word number small =
    let (some, digits) = is_number-some word number in
    length-decimal-le (length word) (value_of word) some (digits_value_short digits_model word (length word) digits (omega arith)) small

magnitude_of-length : (limit : ℕ) (word : List ℕ) → limit < 2 ^ 64 → IfSome (magnitude_of limit word) (λ n. length (decimal n) ≤ length word)
unfolding magnitude_of
magnitude_of-length limit word low =
    cond_both (nat_le (length word) 10 && is_number word) (value_at_most limit word) None (λ o. IfSome o (λ n. length (decimal n) ≤ length word))
    (λ both. cond_both (nat_le (value_of word) limit) (Some (value_of word)) None (λ o. IfSome o (λ n. length (decimal n) ≤ length word))
    (λ within. let most = leb-true (value_of word) limit within in
    length-value word (and_parts (nat_le (length word) 10) (is_number word) both).1 (omega (arith, most, low)))
    (λ _. tt))
    (λ _. tt)

-- a number is written no longer than it was read
abbrev pub IsNoLonger : List ℕ → ℤ → Type 0
IsNoLonger word z = length (signed_decimal z) ≤ length word

length-pos : (word : List ℕ) (found : Option ℕ) → IfSome found (λ n. length (decimal n) ≤ length word) → IfSome (option_map pos found) (IsNoLonger word)
length-pos word None short = tt
length-pos word (Some n) short = short

length-neg : (b : ℕ) (word : List ℕ) (found : Option ℕ) → IfSome found (λ n. length (decimal n) ≤ length word)
    → IfSome (option_map (λ n. neg_ℤ (pos n)) found) (IsNoLonger (b ∷ word))
length-neg b word None short = tt
length-neg b word (Some zero) short = omega (arith, short)
length-neg b word (Some (suc n)) short = omega (arith, short)

pub number_of-length : (word : List ℕ) → IfSome (number_of word) (IsNoLonger word)
unfolding number_of
number_of-length [] = tt
number_of-length (b ∷ word) =
    cond_both (b == 45) (option_map (λ n. neg_ℤ (pos n)) (magnitude_of (2 ^ 31) word)) (option_map pos (magnitude_of (2 ^ 31 - 1) (b ∷ word))) (λ o. IfSome o (IsNoLonger (b ∷ word)))
    (λ _. length-neg b word (magnitude_of (2 ^ 31) word) (magnitude_of-length (2 ^ 31) word (omega arith)))
    (λ _. length-pos (b ∷ word) (magnitude_of (2 ^ 31 - 1) (b ∷ word)) (magnitude_of-length (2 ^ 31 - 1) (b ∷ word) (omega arith)))

-- ---- a name for each kind that passes a test
module _ (word_of : ℕ → List ℕ) where
  abbrev pub cost_if : Bool → ℕ → ℕ
  cost_if true kind = suc (length (word_of kind))
  cost_if false kind = 0

  abbrev pub cost : (ℕ → Bool) → List ℕ → ℕ
  cost test [] = 0
  cost test (kind ∷ kinds) = cost_if (test kind) kind + cost test kinds

  pub width-filter : (test : ℕ → Bool) (kinds : List ℕ) → width (map word_of (filter test kinds)) ≡ cost test kinds
  width-filter test [] = refl
  width-filter test (kind ∷ kinds) = by (test kind) (width-filter test kinds)
    where
      by : (passes : Bool) → width (map word_of (filter test kinds)) ≡ cost test kinds
          → width (map word_of (cond passes (kind ∷ filter test kinds) (filter test kinds))) ≡ cost_if passes kind + cost test kinds
      by true later = omega (arith, later)
      by false later = omega (arith, later)

  -- fewer kinds
  cost-weaker : (test other : ℕ → Bool) → ((kind : ℕ) → test kind ≡ true → other kind ≡ true) → (kinds : List ℕ) → cost test kinds ≤ cost other kinds
  cost-weaker test other passes [] = omega arith
  cost-weaker test other passes (kind ∷ kinds) = by (test kind) (other kind) (passes kind) (cost-weaker test other passes kinds)
    where
      by : (one two : Bool) → (one ≡ true → two ≡ true) → cost test kinds ≤ cost other kinds → cost_if one kind + cost test kinds ≤ cost_if two kind + cost other kinds
      by true true h later = omega (arith, later)
      by true false h later = absurd (let t = h refl in cc)
      by false two h later = omega (arith, later)

  -- the kinds of either test
  cost-or : (test other : ℕ → Bool) (kinds : List ℕ) → cost (λ kind. test kind || other kind) kinds ≤ cost test kinds + cost other kinds
  cost-or test other [] = omega arith
  cost-or test other (kind ∷ kinds) = by (test kind) (other kind) (cost-or test other kinds)
    where
      by : (one two : Bool) → cost (λ k. test k || other k) kinds ≤ cost test kinds + cost other kinds
          → cost_if (one || two) kind + cost (λ k. test k || other k) kinds ≤ (cost_if one kind + cost test kinds) + (cost_if two kind + cost other kinds)
      by true two later = omega (arith, later)
      by false two later = omega (arith, later)

  cost-none : (test : ℕ → Bool) → ((kind : ℕ) → test kind ≡ false) → (kinds : List ℕ) → cost test kinds ≡ 0
  cost-none test none [] = refl
  cost-none test none (kind ∷ kinds) =
      let later = cost-none test none kinds in
      let first = ap (λ (t : Bool). cost_if t kind) (none kind) in
      omega (arith, later, first)

  -- one kind
  cost-past : (named a n : ℕ) → named < a → cost (λ kind. kind == named) (range_with_len a n) ≡ 0
  cost-past named a zero before = refl
  cost-past named a (suc n) before =
      let other : (a == named) ≡ false = grind (arith, nat_tests, before) in
      let later = cost-past named (a + 1) n (omega (arith, before)) in
      let first = ap (λ (t : Bool). cost_if t a) other in
      omega (arith, later, first)

  cost-one : (named a n : ℕ) → cost (λ kind. kind == named) (range_with_len a n) ≤ suc (length (word_of named))
  cost-one named a zero = omega arith
  cost-one named a (suc n) = by (a == named) refl (cost-one named (a + 1) n)
    where
      by : (same : Bool) → (a == named) ≡ same → cost (λ kind. kind == named) (range_with_len (a + 1) n) ≤ suc (length (word_of named))
          → cost_if same a + cost (λ kind. kind == named) (range_with_len (a + 1) n) ≤ suc (length (word_of named))
      by true is later =
          let here : a ≡ named = eqb-true a named is in
          let past = cost-past named (a + 1) n (omega (arith, here)) in
          let long = ap (λ k. length (word_of k)) here in
          omega (arith, past, long)
      by false is later = omega (arith, later)

  -- kinds that words name, each of them by a word no shorter than its own
  module _ (kind_of : List ℕ → Option ℕ) (shortest : (word : List ℕ) → IfSome (kind_of word) (λ kind. length (word_of kind) ≤ length word)) where
    abbrev names_kind : ℕ → List ℕ → Bool
    names_kind kind word = option_map_or (λ named. kind == named) (kind_of word) false

    cost-word : (word : List ℕ) (found : Option ℕ) → IfSome found (λ kind. length (word_of kind) ≤ length word)
        → cost (λ kind. option_map_or (λ named. kind == named) found false) (range_with_len 0 64) ≤ suc (length word)
    cost-word word None short = let none = cost-none (λ kind. false) (λ kind. refl) (range_with_len 0 64) in omega (arith, none)
    cost-word word (Some named) short = let one = cost-one named 0 64 in omega (arith, one, short)

    cost-words : (words : List (List ℕ)) → cost (λ kind. list_any (names_kind kind) words) (range_with_len 0 64) ≤ width words
    cost-words [] = let none = cost-none (λ kind. false) (λ kind. refl) (range_with_len 0 64) in omega (arith, none)
    cost-words (word ∷ words) =
        let first = cost-word word (kind_of word) (shortest word) in
        let others = cost-words words in
        let both = cost-or (λ kind. names_kind kind word) (λ kind. list_any (names_kind kind) words) (range_with_len 0 64) in
        omega (arith, first, others, both)

    -- a name for each kind of a set takes no more than the words that name them
    pub width-named : (held : ℕ → Bool) (words : List (List ℕ)) → ((kind : ℕ) → held kind ≡ true → list_any (names_kind kind) words ≡ true)
        → width (map word_of (filter held (range_with_len 0 64))) ≤ width words
    width-named held words named =
        let each = width-filter held (range_with_len 0 64) in
        let fewer = cost-weaker held (λ kind. list_any (names_kind kind) words) named (range_with_len 0 64) in
        let all = cost-words words in
        omega (arith, each, fewer, all)
