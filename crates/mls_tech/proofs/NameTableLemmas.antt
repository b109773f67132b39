-- The entries of a map from names, as the names with their numbers.
use Rattle.std.proofs.Common.{◌≡◌, ℕ, Bool, true, false, cond, List, [], ◌∷◌, ◌++◌, Option, Some, None, refl, ap, ◌∙◌}
use Rattle.std.specs.Map.{lookup}
use Rattle.indexmap.specs.IndexMap.{insert_entry}
use Rattle.mls_text.specs.Words.{same_word}
use Rattle.mls_tech.specs.Inner.NameTables.{names_in}
use Rattle.mls_tech.specs.Readings.{number_named}

-- what is nothing isn't found
not_found : (b : Bool) (n : ℕ) (found : Option ℕ) → cond b (Some n) found ≡ None → (b ≡ false) × (found ≡ None)
not_found true n found e = cc
not_found false n found e = (refl, e)

module _ {K : Type 0} (bytes : K → List ℕ) where
  -- a word is looked up among the names as among the keys
  pub number_named-names_in : (entries : List (K × ℕ)) (word : List ℕ) → number_named (names_in bytes entries) word ≡ lookup (λ key. same_word word (bytes key)) entries
  number_named-names_in [] word = refl
  number_named-names_in (entry ∷ entries) word = ap (cond (same_word word (bytes entry.0)) _) (number_named-names_in entries word)

  -- a name that is new goes last
  pub names_in-insert_entry : (entries : List (K × ℕ)) (key : K) (number : ℕ) → number_named (names_in bytes entries) (bytes key) ≡ None
      → names_in bytes (insert_entry (λ a b. same_word (bytes a) (bytes b)) entries key number) ≡ names_in bytes entries ++ (bytes key, number) ∷ []
  names_in-insert_entry [] key number new = refl
  names_in-insert_entry (entry ∷ entries) key number new =
      let absent = not_found (same_word (bytes key) (bytes entry.0)) entry.1 (number_named (names_in bytes entries) (bytes key)) new in
      ap (λ b. names_in bytes (cond b ((entry.0, number) ∷ entries) (entry ∷ insert_entry (λ a b. same_word (bytes a) (bytes b)) entries key number))) absent.0
      ∙ ap (λ names. (bytes entry.0, entry.1) ∷ names) (names_in-insert_entry entries key number absent.1)
