-- Words and lists that are written are read as they were.
use Rattle.std.proofs.Common.{◌≡◌, ◌≢◌, ℕ, ◌<◌, ◌==◌, Bool, false, cond, List, [], ◌∷◌, ◌++◌, length, map, All, refl, sym, ap, ◌∙◌, arith}
use Rattle.std.specs.List.{flat_map, join_with_byte}
use Rattle.std.proofs.lemmas.Bool.{cond_both}
use Rattle.std.proofs.lemmas.List.Elements.{All-append, All-cons, All-head, All-nil, All-tail}
use mathlib.Core.List.{append-nil}
use Rattle.mls_text.specs.Fields.{fields_of}
use Rattle.mls_text.specs.Lines.{IsUnbroken}
use Rattle.mls_text.specs.Words.{begins_with_word, is_blank, onto_first, words_of}
use Rattle.mls_server.proofs.mls_library.SavedLines.{IsWord}

-- ---- each word of a line is one
-- a byte other than a blank
abbrev IsSolid : ℕ → Type 0
IsSolid b = is_blank b ≡ false

IsWord-onto : (b : ℕ) (words : List (List ℕ)) → is_blank b ≡ false → All IsWord words → All IsWord (onto_first b words)
IsWord-onto b [] solid are = All-cons IsWord (b ∷ []) [] (record { some = omega arith; solid = All-cons IsSolid b [] solid (All-nil IsSolid) }) (All-nil IsWord)
IsWord-onto b (first ∷ others) solid are =
    All-cons IsWord (b ∷ first) others (record { some = omega arith; solid = All-cons IsSolid b first solid (All-head IsWord first others are).solid })
    (All-tail IsWord first others are)

pub IsWord-words_of : (bytes : List ℕ) → All IsWord (words_of bytes)
IsWord-words_of [] = All-nil IsWord
IsWord-words_of (b ∷ bytes) =
    cond_both (is_blank b) (words_of bytes) (cond (begins_with_word bytes) (onto_first b (words_of bytes)) ((b ∷ []) ∷ words_of bytes)) (All IsWord)
    (λ _. IsWord-words_of bytes)
    (λ solid. cond_both (begins_with_word bytes) (onto_first b (words_of bytes)) ((b ∷ []) ∷ words_of bytes) (All IsWord)
    (λ _. IsWord-onto b (words_of bytes) solid (IsWord-words_of bytes))
    (λ _. All-cons IsWord (b ∷ []) (words_of bytes) (record { some = omega arith; solid = All-cons IsSolid b [] solid (All-nil IsSolid) }) (IsWord-words_of bytes)))

-- a word has a line feed only where the line has one
unbroken-onto : (b : ℕ) (words : List (List ℕ)) → b ≢ 10 → All IsUnbroken words → All IsUnbroken (onto_first b words)
unbroken-onto b [] other are = All-cons IsUnbroken (b ∷ []) [] (All-cons (λ c. c ≢ 10) b [] other (All-nil (λ c. c ≢ 10))) (All-nil IsUnbroken)
unbroken-onto b (first ∷ others) other are =
    All-cons IsUnbroken (b ∷ first) others (All-cons (λ c. c ≢ 10) b first other (All-head IsUnbroken first others are)) (All-tail IsUnbroken first others are)

pub unbroken-words_of : (bytes : List ℕ) → IsUnbroken bytes → All IsUnbroken (words_of bytes)
unbroken-words_of [] whole = All-nil IsUnbroken
unbroken-words_of (b ∷ bytes) whole =
    let other = All-head (λ c. c ≢ 10) b bytes whole in
    let later = unbroken-words_of bytes (All-tail (λ c. c ≢ 10) b bytes whole) in
    cond_both (is_blank b) (words_of bytes) (cond (begins_with_word bytes) (onto_first b (words_of bytes)) ((b ∷ []) ∷ words_of bytes)) (All IsUnbroken)
    (λ _. later)
    (λ _. cond_both (begins_with_word bytes) (onto_first b (words_of bytes)) ((b ∷ []) ∷ words_of bytes) (All IsUnbroken)
    (λ _. unbroken-onto b (words_of bytes) other later)
    (λ _. All-cons IsUnbroken (b ∷ []) (words_of bytes) (All-cons (λ c. c ≢ 10) b [] other (All-nil (λ c. c ≢ 10))) later))

-- ---- a list with commas
-- a byte other than a comma
abbrev IsWhole : ℕ → Type 0
IsWhole b = (b == 44) ≡ false

-- a field up to its comma
fields_of-comma : (field rest : List ℕ) → All IsWhole field → fields_of (field ++ 44 ∷ rest) ≡ field ∷ fields_of rest
fields_of-comma [] rest whole = refl
fields_of-comma (b ∷ field) rest whole =
    let later = fields_of (field ++ 44 ∷ rest) in
    ap (λ (t : Bool). cond t ([] ∷ later) (onto_first b later)) (All-head IsWhole b field whole)
    ∙ ap (onto_first b) (fields_of-comma field rest (All-tail IsWhole b field whole))

fields_of-whole : (field : List ℕ) → All IsWhole field → fields_of field ≡ field ∷ []
fields_of-whole [] whole = refl
fields_of-whole (b ∷ field) whole =
    ap (λ (t : Bool). cond t ([] ∷ fields_of field) (onto_first b (fields_of field))) (All-head IsWhole b field whole)
    ∙ ap (onto_first b) (fields_of-whole field (All-tail IsWhole b field whole))

-- fields without commas, with commas between them, are read as these fields
pub fields_of-joined : (field : List ℕ) (fields : List (List ℕ)) → All (All IsWhole) (field ∷ fields) → fields_of (join_with_byte 44 (field ∷ fields)) ≡ field ∷ fields
fields_of-joined field [] whole = fields_of-whole field (All-head (All IsWhole) field [] whole)
fields_of-joined field (next ∷ fields) whole =
    fields_of-comma field (join_with_byte 44 (next ∷ fields)) (All-head (All IsWhole) field (next ∷ fields) whole)
    ∙ ap (λ (others : List (List ℕ)). field ∷ others) (fields_of-joined next fields (All-tail (All IsWhole) field (next ∷ fields) whole))

-- and they are one word, where each is one
pub solid-joined : (fields : List (List ℕ)) → All (All IsSolid) fields → All IsSolid (join_with_byte 44 fields)
solid-joined [] solid = All-nil IsSolid
solid-joined (field ∷ []) solid = All-head (All IsSolid) field [] solid
solid-joined (field ∷ next ∷ fields) solid =
    All-append IsSolid field (44 ∷ join_with_byte 44 (next ∷ fields)) (All-head (All IsSolid) field (next ∷ fields) solid)
    (All-cons IsSolid 44 (join_with_byte 44 (next ∷ fields)) refl (solid-joined (next ∷ fields) (All-tail (All IsSolid) field (next ∷ fields) solid)))

-- a list of what has no line feed has none
pub unbroken-joined : (fields : List (List ℕ)) → All IsUnbroken fields → IsUnbroken (join_with_byte 44 fields)
unbroken-joined [] whole = All-nil (λ b. b ≢ 10)
unbroken-joined (field ∷ []) whole = All-head IsUnbroken field [] whole
unbroken-joined (field ∷ next ∷ fields) whole =
    All-append (λ b. b ≢ 10) field (44 ∷ join_with_byte 44 (next ∷ fields)) (All-head IsUnbroken field (next ∷ fields) whole)
    (All-cons (λ b. b ≢ 10) 44 (join_with_byte 44 (next ∷ fields)) (λ same. omega (arith, same)) (unbroken-joined (next ∷ fields) (All-tail IsUnbroken field (next ∷ fields) whole)))

pub some-joined : (field : List ℕ) (fields : List (List ℕ)) → 0 < length field → 0 < length (join_with_byte 44 (field ∷ fields))
some-joined [] fields some = absurd (omega (arith, some))
some-joined (b ∷ field) [] some = omega arith
some-joined (b ∷ field) (next ∷ fields) some = omega arith

-- the first field, and each other after its comma
pub joined-pieces : (word_of : ℕ → List ℕ) (k : ℕ) (kinds : List ℕ) → join_with_byte 44 (map word_of (k ∷ kinds)) ≡ word_of k ++ flat_map (λ m. 44 ∷ word_of m) kinds
joined-pieces word_of k [] = sym (append-nil (word_of k))
joined-pieces word_of k (m ∷ kinds) = ap (λ (l : List ℕ). word_of k ++ 44 ∷ l) (joined-pieces word_of m kinds)
