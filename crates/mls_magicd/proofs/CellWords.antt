-- Words that name cells are cut at their first `=`.
use Rattle.std.proofs.Common.{◌≡◌, ◌∙◌, ◌<◌, ℕ, zero, suc, ◌+◌, ◌==◌, Bool, true, false, not, cond, List, [], ◌∷◌, ◌++◌, length, get_or, map, take, drop, Option, Some, None, Result, Err, option_map, refl, sym, ap, ap₂, subst, arith}
use Rattle.std.proofs.lemmas.List.{map-append}
use Rattle.std.specs.Borrow.{Bor}
use Rattle.std.specs.Option.{ok_or}
use Rattle.std.specs.List.{after_first, before_first, position_or_len}
use Rattle.mls_magicd.proofs.Taken.{map-take_more}
use Rattle.mls_magicd.specs.CommandLines.{IsBadWord, NamedFile, NamesFiles, bad_word, file_of, named_file}
use Rattle.mls_magicd.specs.declared.cell_argument.CellArgument.{CellArgument}
use Rattle.mls_magicd.specs.declared.options.OptionsFault.{OptionsFault}
use Rattle.mls_magicd.specs.declared.options.OptionsFault.TheVariants.{BadCell}

abbrev is_cut : ℕ → Bool
is_cut b = b == 61

abbrev with_byte : ℕ → NamedFile → NamedFile
with_byte byte cut = record cut { name = byte ∷ cut.name }

-- a word without `=` names nothing
pub named_file-none : (word : List ℕ) → position_or_len is_cut word ≡ length word → named_file word ≡ None
unfolding named_file
named_file-none [] e = refl
named_file-none (byte ∷ bytes) e = go (is_cut byte) (λ rest. named_file-none bytes rest) e
  where
    go : (t : Bool) → (position_or_len is_cut bytes ≡ length bytes → named_file bytes ≡ None) → cond (not t) (1 + position_or_len is_cut bytes) 0 ≡ length (byte ∷ bytes)
        → cond t (Some (record { name = []; path = bytes })) (option_map (with_byte byte) (named_file bytes)) ≡ None
    go true rest e = absurd (omega (arith, e))
    go false rest e = rw (rest (omega (arith, e))) refl

-- a cut one byte farther
shifted : (n byte : ℕ) (bytes : List ℕ)
    → ◌≡◌ {A = Option NamedFile} (Some (record { name = byte ∷ take n bytes; path = drop (n + 1) bytes }))
    (Some (record { name = take (1 + n) (byte ∷ bytes); path = drop (1 + n + 1) (byte ∷ bytes) }))
shifted n byte bytes =
    let front : suc n ≡ 1 + n = omega arith in
    let rest : suc (n + 1) ≡ 1 + n + 1 = omega arith in
    ap₂ {C = Option NamedFile} (λ (i j : ℕ). Some (record { name = take i (byte ∷ bytes); path = drop j (byte ∷ bytes) })) front rest

-- any other one names what stands before it, and the file after it
pub named_file-some : (word : List ℕ) → position_or_len is_cut word < length word
    → named_file word ≡ Some (record { name = before_first is_cut word; path = after_first is_cut word })
unfolding named_file
named_file-some [] low = absurd (omega (arith, low))
named_file-some (byte ∷ bytes) low = go (is_cut byte) (λ rest. named_file-some bytes rest) low
  where
    go : (t : Bool)
        → (position_or_len is_cut bytes < length bytes → named_file bytes ≡ Some (record { name = before_first is_cut bytes; path = after_first is_cut bytes }))
        → cond (not t) (1 + position_or_len is_cut bytes) 0 < length (byte ∷ bytes)
        → cond t (Some (record { name = []; path = bytes })) (option_map (with_byte byte) (named_file bytes))
        ≡ Some (record { name = take (cond (not t) (1 + position_or_len is_cut bytes) 0) (byte ∷ bytes); path = drop (cond (not t) (1 + position_or_len is_cut bytes) 0 + 1) (byte ∷ bytes) })
    go true rest low = refl
    go false rest low = ap (option_map (with_byte byte)) (rest (omega (arith, low))) ∙ shifted (position_or_len is_cut bytes) byte bytes

-- one word more
pub NamesFiles-more : (words : List (List ℕ)) (files : List NamedFile) (word : List ℕ) (file : NamedFile) → NamesFiles words files → named_file word ≡ Some file
    → NamesFiles (words ++ word ∷ []) (files ++ file ∷ [])
NamesFiles-more words files word file before one =
    map-append named_file words (word ∷ []) ∙ ap₂ (λ (named : List (Option NamedFile)) (last : Option NamedFile). named ++ last ∷ []) before one ∙ sym (map-append Some files (file ∷ []))

-- the words up to one, and that one
pub NamesFiles-taken : {X : Type 0} (text : X → List ℕ) (words : List X) (i : ℕ) (d : X) (files : List NamedFile) (file : NamedFile) → i < length words
    → NamesFiles (map text (take i words)) files → named_file (text (get_or words i d)) ≡ Some file
    → NamesFiles (map text (take (i + 1) words)) (files ++ file ∷ [])
NamesFiles-taken text words i d files file low before one =
    subst (λ (texts : List (List ℕ)). NamesFiles texts (files ++ file ∷ [])) (sym (map-take_more text words i d low))
    (NamesFiles-more (map text (take i words)) files (text (get_or words i d)) file before one)

-- words that name files are not bad
pub named-not_bad : (words : List (List ℕ)) (files : List NamedFile) → NamesFiles words files → bad_word words ≡ None
unfolding bad_word
named-not_bad [] files named = refl
named-not_bad (word ∷ words) [] named = cc
named-not_bad (word ∷ words) (file ∷ files) named =
    let first : named_file word ≡ Some file = ap (λ (l : List (Option NamedFile)). get_or l 0 None) named in
    rw first (named-not_bad words files (ap (drop 1) named))

-- the first words name files, and the next one doesn't
pub bad_word-at : {X : Type 0} (text : X → List ℕ) (words : List X) (i : ℕ) (d : X) (files : List NamedFile) → i < length words → NamesFiles (map text (take i words)) files
    → named_file (text (get_or words i d)) ≡ None → bad_word (map text words) ≡ Some (text (get_or words i d))
unfolding bad_word
bad_word-at text [] i d files low named none = absurd (omega (arith, low))
bad_word-at text (word ∷ words) zero d files low named none = rw none refl
bad_word-at text (word ∷ words) (suc i) d [] low named none = cc
bad_word-at text (word ∷ words) (suc i) d (file ∷ files) low named none =
    let first : named_file (text word) ≡ Some file = ap (λ (l : List (Option NamedFile)). get_or l 0 None) named in
    rw first (bad_word-at text words i d files (omega (arith, low)) (ap (drop 1) named) none)

-- a word that isn't cut is the first bad one
pub cut-refused : (words : List (Bor (List ℕ))) (i : ℕ) (d : Bor (List ℕ)) (files : List NamedFile) (cut : Option CellArgument) (fault : OptionsFault) → i < length words
    → NamesFiles (map (λ word. word.now) (take i words)) files → option_map file_of cut ≡ named_file (get_or words i d).now
    → ◌≡◌ {A = Result CellArgument OptionsFault} (Err fault) (ok_or cut (BadCell (get_or words i d))) → IsBadWord (map (λ word. word.now) words) fault
cut-refused words i d files (Some argument) fault low named cut is = cc
cut-refused words i d files None fault low named cut is =
    let fault_is : fault ≡ BadCell (get_or words i d) = cc in
    subst (λ (f : OptionsFault). IsBadWord (map (λ word. word.now) words) f) (sym fault_is) (bad_word-at (λ word. word.now) words i d files low named (sym cut))
