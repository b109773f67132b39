-- The types of a list of names, gathered one by one.
use Rattle.std.proofs.Common.{◌≡◌, ℕ, ◌^◌, ◌<◌, ◌==◌, Bool, true, false, cond, ◌||◌, ◌&&◌, is_some, Option, Some, None, List, [], ◌∷◌, refl, sym, ap, ◌∙◌}
use Rattle.std.specs.List.{list_all, list_any}
use Rattle.std.specs.Option.{option_map_or}
use Rattle.std.proofs.Math.Bool.{or-false}
use Rattle.mls_kinds.specs.KindSets.{has_bit, set_of, with_kind}
use Rattle.mls_kinds.proofs.BitLemmas.{has_bit-zero}
use Rattle.mls_kinds.proofs.KindSetLemmas.{has_bit-set_of, is_set_of, set_of_same}
use Rattle.mls_wire.specs.NameBooks.{Names}
use Rattle.mls_wire.specs.Says.{names_type, types_named}

or-assoc : (x y z : Bool) → ((x || y) || z) ≡ (x || (y || z))
or-assoc true y z = refl
or-assoc false y z = refl

module _ (book : Names) where
  abbrev are_types : List (List ℕ) → Bool
  are_types names = list_all (λ name. is_some (book.type_of name)) names

  abbrev set_with : ℕ → List (List ℕ) → ℕ
  set_with set names = set_of (λ kind. has_bit set kind || list_any (names_type book kind) names)

  -- the set with the types of these names, or none where a name is of no type
  abbrev pub types_from : ℕ → List (List ℕ) → Option ℕ
  types_from set names = cond (are_types names) (Some (set_with set names)) None

  pub types_named-from : (names : List (List ℕ)) → types_named book names ≡ types_from 0 names
  unfolding types_named
  types_named-from names =
      ap (λ set. cond (are_types names) (Some set) None)
      (set_of_same _ _ (λ kind below. sym (ap (λ held. held || list_any (names_type book kind) names) (has_bit-zero kind))))

  -- no name is left
  types_from-nil : (set : ℕ) → set < 2 ^ 64 → types_from set [] ≡ Some set
  types_from-nil set fits = ap Some (sym (is_set_of set _ fits (λ kind below. sym (or-false (has_bit set kind)))))

  pub types_from-all : (left : List (List ℕ)) (set : ℕ) (types : Option ℕ) → left ≡ [] → set < 2 ^ 64 → types ≡ types_from set left → Some set ≡ types
  types_from-all left set types none fits all = sym (all ∙ ap (types_from set) none ∙ types_from-nil set fits)

  module _ (name : List ℕ) (names : List (List ℕ)) where
    -- a name of no type
    pub types_from-none : (set : ℕ) → book.type_of name ≡ None → types_from set (name ∷ names) ≡ None
    types_from-none set none =
        let not_all : are_types (name ∷ names) ≡ false = ap (λ found. is_some found && are_types names) none in
        ap (λ all. cond all (Some (set_with set (name ∷ names))) None) not_all

    module _ (set kind : ℕ) (named : book.type_of name ≡ Some kind) where
      same_set : set_with set (name ∷ names) ≡ set_with (with_kind set kind) names
      same_set = set_of_same _ _ same_at
        where
          same_at : (k : ℕ) → k < 64
              → (has_bit set k || (names_type book k name || list_any (names_type book k) names)) ≡ (has_bit (with_kind set kind) k || list_any (names_type book k) names)
          same_at k below =
              let rest = list_any (names_type book k) names in
              ap (λ found. has_bit set k || (option_map_or (λ other. k == other) found false || rest)) named
              ∙ sym (or-assoc (has_bit set k) (k == kind) rest)
              ∙ ap (λ held. held || rest) (sym (has_bit-set_of (λ other. has_bit set other || other == kind) k below))

      -- a name of this type
      types_from-some : types_from set (name ∷ names) ≡ types_from (with_kind set kind) names
      types_from-some =
          let same_test : are_types (name ∷ names) ≡ are_types names = ap (λ found. is_some found && are_types names) named in
          ap (λ all. cond all (Some (set_with set (name ∷ names))) None) same_test ∙ ap (λ types. cond (are_types names) (Some types) None) same_set

  -- the first of the names that are left, where it is of this type
  pub types_from-next :
      (left names : List (List ℕ)) (name : List ℕ) (set kind more : ℕ) → left ≡ name ∷ names → Some kind ≡ book.type_of name → more ≡ with_kind set kind
      → types_from set left ≡ types_from more names
  types_from-next left names name set kind more next named added =
      ap (types_from set) next ∙ types_from-some name names set kind (sym named) ∙ ap (λ types. types_from types names) (sym added)
