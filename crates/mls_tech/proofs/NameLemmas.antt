-- The spelling of names, and the names of a list, added one by one.
use Rattle.std.proofs.Common.{◌≡◌, ℕ, Bool, true, false, cond, not, List, [], ◌∷◌, ◌++◌, Option, Some, None, Result, Ok, Err, is_some, refl, sym, ap, subst, ◌∙◌}
use Rattle.std.specs.Prelude.{All, IfSome}
use Rattle.std.proofs.lemmas.Map.Entries.{All-lookup}
use Rattle.mls_text.specs.Words.{same_word}
use Rattle.mls_text.proofs.WordTests.{is_empty_by_length}
use Rattle.std.proofs.lemmas.List.Elements.{All-push}
use Rattle.mls_tech.specs.Readings.{Numbered, number_named, add_names}
use Rattle.mls_tech.specs.declared.fault.TechFaultKind.{TechFaultKind}
use Rattle.mls_tech.specs.declared.fault.TechFaultKind.TheVariants.{NameTwice, BadForm}

module _ (is_spelled : List ℕ → Bool) (number : ℕ) (names : Numbered) where
  -- a list that is at its end adds nothing more
  pub add_names-none : add_names is_spelled number names [] ≡ Ok names
  unfolding add_names
  add_names-none = refl

  module _ (word : List ℕ) (words : List (List ℕ)) where
    abbrev added_by : Bool → Bool → Result Numbered TechFaultKind
    added_by spelled twice = cond (not spelled) (Err BadForm) (cond twice (Err NameTwice) (add_names is_spelled number (names ++ (word, number) ∷ []) words))

    add_names-word : (spelled twice : Bool) → is_spelled word ≡ spelled → is_some (number_named names word) ≡ twice → add_names is_spelled number names (word ∷ words) ≡ added_by spelled twice
    unfolding add_names
    add_names-word spelled twice e f = ap (λ b. added_by b (is_some (number_named names word))) e ∙ ap (added_by spelled) f

    -- the spelling is judged first
    pub add_names-misspelled : is_spelled word ≡ false → add_names is_spelled number names (word ∷ words) ≡ Err BadForm
    add_names-misspelled e = add_names-word _ _ e refl

    -- then whether the name is there already
    pub add_names-twice : is_spelled word ≡ true → is_some (number_named names word) ≡ true → add_names is_spelled number names (word ∷ words) ≡ Err NameTwice
    add_names-twice e f = add_names-word _ _ e f

    -- a new name is added
    pub add_names-new : is_spelled word ≡ true → is_some (number_named names word) ≡ false
        → add_names is_spelled number names (word ∷ words) ≡ add_names is_spelled number (names ++ (word, number) ∷ []) words
    add_names-new e f = add_names-word _ _ e f

-- where all names of a list are added, the first is spelled well and names nothing yet
module _ (is_spelled : List ℕ → Bool) (number : ℕ) (names : Numbered) (word : List ℕ) (words : List (List ℕ)) (added : Numbered) (e : add_names is_spelled number names (word ∷ words) ≡ Ok added) where
  abbrev IsFirst : Type 0
  IsFirst = (is_spelled word ≡ true) × (number_named names word ≡ None) × (add_names is_spelled number (names ++ (word, number) ∷ []) words ≡ Ok added)

  pub add_names-first : IsFirst
  add_names-first = by (is_spelled word) (number_named names word) refl refl
    where
      by : (spelled : Bool) (found : Option ℕ) → is_spelled word ≡ spelled → number_named names word ≡ found → IsFirst
      by false found s f = absurd (cc (add_names-misspelled is_spelled number names word words s))
      by true (Some n) s f = absurd (cc (add_names-twice is_spelled number names word words s (ap is_some f)))
      by true None s f = (s, f, sym (add_names-new is_spelled number names word words s (ap is_some f)) ∙ e)

-- what each name that is added keeps holds once all are
module _ (Kept : Numbered → Type 0) (is_spelled : List ℕ → Bool) (number : ℕ)
    (more : (names : Numbered) (word : List ℕ) → is_spelled word ≡ true → number_named names word ≡ None → Kept names → Kept (names ++ (word, number) ∷ [])) where
  pub add_names-keeps : (names : Numbered) (words : List (List ℕ)) (added : Numbered) → add_names is_spelled number names words ≡ Ok added → Kept names → Kept added
  add_names-keeps names [] added e kept = let same : names ≡ added = cc (add_names-none is_spelled number names) in subst Kept same kept
  add_names-keeps names (word ∷ words) added e kept =
      let (spelled, new, rest) = add_names-first is_spelled number names word words added e in
      add_names-keeps (names ++ (word, number) ∷ []) words added rest (more names word spelled new kept)

-- what holds of each number and of the new one holds of each number afterwards
module _ (P : ℕ → Type 0) (is_spelled : List ℕ → Bool) (number : ℕ) (here : P number) where
  pub add_names-All : (names : Numbered) (words : List (List ℕ)) (added : Numbered) → add_names is_spelled number names words ≡ Ok added → All (λ entry. P entry.1) names → All (λ entry. P entry.1) added
  add_names-All = add_names-keeps (All (λ entry. P entry.1)) is_spelled number (λ names word _ _ all. All-push (λ entry. P entry.1) names (word, number) all here)

-- what holds of each number holds of the one that a word names
module _ (P : ℕ → Type 0) (names : Numbered) (word : List ℕ) (all : All (λ entry. P entry.1) names) where
  pub number_named-All : IfSome (number_named names word) P
  number_named-All = All-lookup P (same_word word) names all

  pub number_named-holds : (number : ℕ) → number_named names word ≡ Some number → P number
  number_named-holds number e = let Q : Option ℕ → Type 0 = λ found. IfSome found P in subst Q e number_named-All

pub ruleset spelling = (is_empty_by_length)
