-- The first name of a type, as it is read.
use Rattle.std.proofs.Common.{◌≡◌, ◌≢◌, ℕ, ◌-◌, ◌<◌, ◌≤◌, ◌==◌, subst, get_or, Bool, true, false, not, ◌||◌, if◌then◌else◌, List, [], ◌∷◌, length, All, Option, Some, None, Ok, IsTrue, refl, sym, ap, ◌∙◌, arith}
use Rattle.std.specs.Prelude.{IsSome, codes, find, slice_get, Result, nat_eq}
use Rattle.std.specs.List.{starts_with, list_all}
use Rattle.std.specs.Option.{option_map, option_and_then, unwrap_or}
use Rattle.std.proofs.lemmas.Bool.{and_parts, eqb-true, ne_eqb, not-true}
use Rattle.std.proofs.lemmas.Bool.Decides.{nat_tests}
use Rattle.std.proofs.lemmas.List.Elements.{All-cons, All-head, All-nil, All-tail}
use Rattle.std.proofs.lemmas.Option.{slice_get-get_or}
use Rattle.mls_tech.specs.Names.{is_name, is_name_byte, is_type_name}
use Rattle.mls_tech.specs.Readings.{HasNames, Tech, number_named, plane_of_type}
use Rattle.mls_text.specs.Lines.{IsUnbroken}
use Rattle.mls_text.specs.Words.{is_blank, is_empty, same_word}
use Rattle.mls_library.specs.CellFiles.{or_fault, layer_named, section_named}
use Rattle.mls_library.specs.SavedCells.{first_name}
use Rattle.mls_library.specs.declared.fault.CellFaultKind.{CellFaultKind}
use Rattle.mls_library.specs.declared.fault.CellFaultKind.TheVariants.{UnknownLayer}
use Rattle.mls_library.specs.declared.meaning.Meaning.{Meaning}
use Rattle.mls_library.specs.declared.meaning.Meaning.TheVariants.{Enters, Ends}
use Rattle.mls_library.specs.declared.place.Place.TheVariants.{Skipped, Layer}
use Rattle.mls_library.proofs.SavedLines.{IsWord}

-- ---- spelling
-- a name of a type is a word, and has no line feed
spelled_all : (P : ℕ → Type 0) → ((b : ℕ) → is_name_byte b ≡ true → P b) → (word : List ℕ) → list_all is_name_byte word ≡ true → All P word
spelled_all P each [] spelled = All-nil P
spelled_all P each (b ∷ bytes) spelled =
    let parts = and_parts (is_name_byte b) (list_all is_name_byte bytes) spelled in
    All-cons P b bytes (each b parts.0) (spelled_all P each bytes parts.1)

spelled_solid : (word : List ℕ) → list_all is_name_byte word ≡ true → All (λ b. is_blank b ≡ false) word
spelled_solid word = spelled_all (λ b. is_blank b ≡ false) (λ b byte. grind (arith, nat_tests)) word

spelled_unbroken : (word : List ℕ) → list_all is_name_byte word ≡ true → IsUnbroken word
spelled_unbroken word = spelled_all (λ b. b ≢ 10) (λ b byte same. grind (arith, nat_tests, same)) word

some_bytes : (word : List ℕ) → not (is_empty word) ≡ true → 0 < length word
some_bytes [] some = cc
some_bytes (b ∷ bytes) some = omega arith

pub IsWord-type_name : (word : List ℕ) → is_type_name word ≡ true → IsWord word
unfolding is_type_name is_name
IsWord-type_name word spelled =
    let name = (and_parts _ _ (and_parts _ _ spelled).0).0 in
    let bytes = (and_parts _ _ name).0 in
    let parts = and_parts (not (is_empty word)) (list_all is_name_byte word) bytes in
    record { some = some_bytes word parts.0; solid = spelled_solid word parts.1 }

pub IsUnbroken-type_name : (word : List ℕ) → is_type_name word ≡ true → IsUnbroken word
unfolding is_type_name is_name
IsUnbroken-type_name word spelled =
    let name = (and_parts _ _ (and_parts _ _ spelled).0).0 in
    spelled_unbroken word (and_parts (not (is_empty word)) (list_all is_name_byte word) (and_parts _ _ name).0).1

-- ---- meaning
-- the word names a type of the plane
pub record IsNameOf (tech : Tech) (kind plane : ℕ) (name : List ℕ) : Type 0 where
  pub spelled : is_type_name name ≡ true
  pub unbroken : IsUnbroken name
  pub number : number_named tech.types name ≡ Some kind
  pub place : plane_of_type tech.type_planes kind ≡ Some plane

-- what is found is in the list and passes the test
find-holds : {X : Type 0} (test : X → Bool) (P : X → Type 0) (xs : List X) (x : X) → All P xs → find test xs ≡ Some x → P x × (test x ≡ true)
find-holds test P [] x all found = cc
find-holds {X} test P (y ∷ ys) x all found = by (test y) refl found (find-holds test P ys x (All-tail P y ys all))
  where
    by : (passes : Bool) → test y ≡ passes → (if passes then Some y else find test ys) ≡ Some x → (find test ys ≡ Some x → P x × (test x ≡ true)) → P x × (test x ≡ true)
    by true passes here later = let same : y ≡ x = cc in (subst P same (All-head P y ys all), ap test (sym same) ∙ passes)
    by false passes there later = later there

found_name : (found : Option (List ℕ × ℕ)) → IsSome (option_map (λ entry. entry.0) found) → (entry : List ℕ × ℕ) × (found ≡ Some entry) × (unwrap_or (option_map (λ e. e.0) found) [] ≡ entry.0)
found_name None there = cc
found_name (Some entry) there = (entry, refl, refl)

module _ (tech : Tech) (names : HasNames tech.types tech.type_planes) where
  -- a type's first name names it
  pub first_name-names : (kind : ℕ) → 1 ≤ kind → kind ≤ length tech.type_planes → (plane : ℕ) × IsNameOf tech kind plane (first_name tech kind)
  first_name-names kind from to =
      let (entry, found, first) = found_name (find (λ e. e.1 == kind) tech.types) (names.each kind from to) in
      let P = λ (e : List ℕ × ℕ). (e.1 ≢ 0 → IsTrue (is_type_name e.0)) × (number_named tech.types e.0 ≡ Some e.1) in
      let holds = find-holds (λ e. e.1 == kind) P tech.types entry (λ k d within. (names.spelled k d within, names.once k d within)) found in
      let number : entry.1 ≡ kind = eqb-true entry.1 kind holds.1 in
      let some : ¬ (kind ≡ 0) = λ zero. omega (arith, zero, from) in
      let spelled : is_type_name entry.0 ≡ true = holds.0.0 (λ zero. some (sym number ∙ zero)) in (
        get_or tech.type_planes (kind - 1) 0,
        subst (IsNameOf tech kind (get_or tech.type_planes (kind - 1) 0)) (sym first) (record {
          spelled = spelled;
          unbroken = IsUnbroken-type_name entry.0 spelled;
          number = holds.0.1 ∙ ap Some number;
          place = ap (λ none. if none then None else slice_get tech.type_planes (kind - 1)) (ne_eqb kind 0 some) ∙ slice_get-get_or tech.type_planes (kind - 1) 0 (omega (arith, from, to));
        }),
      )

-- none of the words that cell files use otherwise
module _ (name : List ℕ) where
  abbrev by_words : (end labels properties elements paint subcell error : Bool) → Result Meaning CellFaultKind → Result Meaning CellFaultKind
  by_words end labels properties elements paint subcell error layer =
      if end then Ok Ends
      else (if labels || (properties || (elements || false)) then Ok (Enters (Skipped true))
      else (if paint || subcell || error then Ok (Enters (Skipped false)) else layer))

  not_reserved : (end labels properties elements paint subcell error : Bool) (layer : Result Meaning CellFaultKind)
      → not (end || (labels || (properties || (elements || (paint || (subcell || false)))))) ≡ true → error ≡ false
      → by_words end labels properties elements paint subcell error layer ≡ layer
  not_reserved true labels properties elements paint subcell error layer free plain = cc
  not_reserved false true properties elements paint subcell error layer free plain = cc
  not_reserved false false true elements paint subcell error layer free plain = cc
  not_reserved false false false true paint subcell error layer free plain = cc
  not_reserved false false false false true subcell error layer free plain = cc
  not_reserved false false false false false true error layer free plain = cc
  not_reserved false false false false false false true layer free plain = cc
  not_reserved false false false false false false false layer free plain = refl

-- so the section of that name is the type's
pub section_named-type : (tech : Tech) (kind plane : ℕ) (name : List ℕ) → IsNameOf tech kind plane name → section_named tech name ≡ Ok (Enters (Layer kind plane))
unfolding section_named layer_named is_type_name
section_named-type tech kind plane name is =
    let parts = and_parts _ _ is.spelled in
    not_reserved name (same_word name (codes "end")) (same_word name (codes "labels")) (same_word name (codes "properties")) (same_word name (codes "elements"))
    (same_word name (codes "checkpaint")) (same_word name (codes "checksubcell")) (starts_with nat_eq name (codes "error_")) _ (and_parts _ _ parts.0).1
    (not-true (starts_with nat_eq name (codes "error_")) parts.1)
    ∙ ap (λ number. or_fault UnknownLayer (option_and_then (λ k. option_map (λ p. Enters (Layer k p)) (plane_of_type tech.type_planes k)) number)) is.number
    ∙ ap (λ place. or_fault UnknownLayer (option_map (λ p. Enters (Layer kind p)) place)) is.place
