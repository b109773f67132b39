-- Types have their names as types are added.
use Rattle.std.proofs.Common.{◌≡◌, ◌≢◌, ℕ, ◌+◌, ◌≤◌, ◌==◌, Bool, true, false, cond, List, [], ◌∷◌, ◌++◌, Option, Some, None, Ok, length, refl, sym, ap, subst, ◌∙◌, ⊎_elim, arith, length-append, eq-eqb}
use Rattle.std.specs.Prelude.{All, IsSome, IsTrue, codes, find}
use Rattle.std.specs.Option.{option_map, option_or}
use Rattle.std.proofs.lemmas.Bool.{cond_both, cases_lt}
use Rattle.std.proofs.lemmas.List.Elements.{All-push, All-weaker}
use Rattle.std.proofs.lemmas.List.Folds.{find-append}
use Rattle.std.proofs.lemmas.Slice.Eq.{bytes_eq-Decides}
use Rattle.mls_text.specs.Fields.{fields_of}
use Rattle.mls_text.specs.Words.{onto_first, same_word}
use Rattle.mls_tech.specs.Names.{is_type_name}
use Rattle.mls_tech.specs.Readings.{Numbered, HasNames, number_named, name_of, add_names}
use Rattle.mls_tech.proofs.NameLemmas.{add_names-first, add_names-keeps}

-- ---- one name more
number_named-push : (names : Numbered) (word other : List ℕ) (number : ℕ) → number_named (names ++ (other, number) ∷ []) word ≡ option_or (number_named names word) (cond (same_word word other) (Some number) None)
number_named-push [] word other number = refl
number_named-push (entry ∷ names) word other number =
    let P : Bool → Type 0 = λ b. cond b (Some entry.1) (number_named (names ++ (other, number) ∷ []) word) ≡ option_or (cond b (Some entry.1) (number_named names word)) (cond (same_word word other) (Some number) None) in
    elim (same_word word entry.0) as P [ true ↦ refl | false ↦ number_named-push names word other number ]

-- names keep their numbers, and a new one has its own
number_named-kept : (names : Numbered) (word other : List ℕ) (number known : ℕ) → number_named names word ≡ Some known → number_named (names ++ (other, number) ∷ []) word ≡ Some known
number_named-kept names word other number known found = number_named-push names word other number ∙ rw found refl

number_named-new : (names : Numbered) (word : List ℕ) (number : ℕ) → number_named names word ≡ None → number_named (names ++ (word, number) ∷ []) word ≡ Some number
number_named-new names word number new = number_named-push names word word number ∙ rw (new, (bytes_eq-Decides word word).1 refl) refl

abbrev IsOnce : Numbered → Type 0
IsOnce names = All (λ entry. number_named names entry.0 ≡ Some entry.1) names

once-push : (names : Numbered) (word : List ℕ) (number : ℕ) → number_named names word ≡ None → IsOnce names → IsOnce (names ++ (word, number) ∷ [])
once-push names word number new once =
    let more : Numbered = names ++ (word, number) ∷ [] in
    All-push (λ entry. number_named more entry.0 ≡ Some entry.1) names (word, number)
    (All-weaker (λ entry. number_named names entry.0 ≡ Some entry.1) (λ entry. number_named more entry.0 ≡ Some entry.1) (λ entry found. number_named-kept names entry.0 word number entry.1 found) names once)
    (number_named-new names word number new)

-- ---- what has a name keeps one
abbrev name_in : Option (List ℕ × ℕ) → Option (List ℕ)
name_in found = option_map (λ entry. entry.0) found

name_of-kept : (names : Numbered) (entry : List ℕ × ℕ) (kind : ℕ) → IsSome (name_of names kind) → IsSome (name_of (names ++ entry ∷ []) kind)
name_of-kept names entry kind named = rw (find-append (λ e. e.1 == kind) names (entry ∷ [])) (by (find (λ e. e.1 == kind) names) (find (λ e. e.1 == kind) (entry ∷ [])) named)
  where
    by : (found other : Option (List ℕ × ℕ)) → IsSome (name_in found) → IsSome (name_in (option_or found other))
    by None other named = absurd cc
    by (Some e) other named = refl

name_of-new : (names : Numbered) (word : List ℕ) (number : ℕ) → IsSome (name_of (names ++ (word, number) ∷ []) number)
name_of-new names word number = rw (find-append (λ e. e.1 == number) names ((word, number) ∷ []), eq-eqb number number refl) (by (find (λ e. e.1 == number) names))
  where
    by : (found : Option (List ℕ × ℕ)) → IsSome (name_in (option_or found (Some (word, number))))
    by None = refl
    by (Some e) = refl

-- ---- the names of a list
abbrev HasFirst : List (List ℕ) → Type 0
HasFirst words = (word : List ℕ) × (others : List (List ℕ)) × (words ≡ word ∷ others)

onto_first-first : (b : ℕ) (words : List (List ℕ)) → HasFirst (onto_first b words)
onto_first-first b [] = (b ∷ [], [], refl)
onto_first-first b (first ∷ others) = (b ∷ first, others, refl)

-- a text has a field
fields_of-first : (text : List ℕ) → HasFirst (fields_of text)
fields_of-first [] = ([], [], refl)
fields_of-first (b ∷ text) =
    cond_both (b == 44) ([] ∷ fields_of text) (onto_first b (fields_of text)) HasFirst (λ comma. ([], fields_of text, refl)) (λ other. onto_first-first b (fields_of text))

module _ (number : ℕ) (types : Numbered) (text : List ℕ) (added : Numbered) (e : add_names is_type_name number types (fields_of text) ≡ Ok added) where
  -- what each new name keeps
  kept : (Kept : Numbered → Type 0) → ((names : Numbered) (word : List ℕ) → is_type_name word ≡ true → number_named names word ≡ None → Kept names → Kept (names ++ (word, number) ∷ [])) → Kept types → Kept added
  kept Kept more = add_names-keeps Kept is_type_name number more types (fields_of text) added e

  -- the number has a name
  named : IsSome (name_of added number)
  named =
      let (word, others, begins) = fields_of-first text in
      let (spelled, new, rest) = add_names-first is_type_name number types word others added (sym (ap (add_names is_type_name number types) begins) ∙ e) in
      add_names-keeps (λ names. IsSome (name_of names number)) is_type_name number (λ names other _ _ some. name_of-kept names (other, number) number some)
      (types ++ (word, number) ∷ []) others added rest (name_of-new types word number)

-- ---- one type more, with its names
abbrev IsSpace : List ℕ × ℕ → Type 0
IsSpace entry = entry.1 ≡ 0 → entry.0 ≡ codes "space"

abbrev IsSpelled : List ℕ × ℕ → Type 0
IsSpelled entry = entry.1 ≢ 0 → IsTrue (is_type_name entry.0)

module _ (types : Numbered) (type_planes : List ℕ) (has : HasNames types type_planes) (plane : ℕ) (text : List ℕ) (added : Numbered)
    (e : add_names is_type_name (length type_planes + 1) types (fields_of text) ≡ Ok added) where
  each-added : (kind : ℕ) → 1 ≤ kind → kind ≤ length type_planes + 1 → IsSome (name_of added kind)
  each-added kind above within =
      ⊎_elim
      (λ old. kept (length type_planes + 1) types text added e (λ names. IsSome (name_of names kind)) (λ names word _ _ some. name_of-kept names (word, length type_planes + 1) kind some) (has.each kind above (omega arith)))
      (λ new. let last : length type_planes + 1 ≡ kind = omega arith in subst (λ (n : ℕ). IsSome (name_of added n)) last (named (length type_planes + 1) types text added e))
      (cases_lt kind (length type_planes + 1))

  pub HasNames-type : HasNames added (type_planes ++ plane ∷ [])
  HasNames-type =
      let more : length (type_planes ++ plane ∷ []) ≡ length type_planes + 1 = length-append type_planes (plane ∷ []) in
      record {
        space = kept (length type_planes + 1) types text added e (All IsSpace) (λ names word _ _ all. All-push IsSpace names (word, length type_planes + 1) all (λ none. absurd (omega (arith, none)))) has.space;
        spelled = kept (length type_planes + 1) types text added e (All IsSpelled) (λ names word spelled _ all. All-push IsSpelled names (word, length type_planes + 1) all (λ _. spelled)) has.spelled;
        once = kept (length type_planes + 1) types text added e IsOnce (λ names word _ new once. once-push names word (length type_planes + 1) new once) has.once;
        each = λ kind above within. each-added kind above (omega arith);
      }
