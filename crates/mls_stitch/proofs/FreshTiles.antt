-- Tiles listed with their pieces, by their keys.
use Rattle.std.proofs.Common.{◌≡◌, ◌≢◌, ◌⊎◌, ℕ, zero, suc, true, false, ◌==◌, List, [], ◌∷◌, map, Option, Some, None, inl, inr, refl, sym, ap, ◌∙◌, subst, subst₂, le_of_suc-le-suc, eq-eqb, eqb-true, arith}
use Rattle.mls_stitch.proofs.Common.{AllPairs, Contains, list_any, IfSome, cases_Bool, cond-false, cond-true, false_from_ne_true, get_or_default, get_or-map, length-map, All-contains, none-some, same_Some, Piece, AllPairs-first, AllPairs-rest, Contains-first, Contains-map, Contains-rest, fresh_at, keys_of, LaidTile}
use Rattle.std.proofs.lemmas.List.Folds.{Any-from_list_any, list_any-from_Any}

-- an option is none or some
pub cases_Option : {X : Type 0} (o : Option X) → (o ≡ None) ⊎ ((x : X) × (o ≡ Some x))
cases_Option None = inl refl
cases_Option (Some x) = inr (x, refl)

-- what holds of the value, whatever it is
pub IfSome-each : {X : Type 0} (o : Option X) (P : X → Type 0) → ((x : X) → o ≡ Some x → P x) → IfSome o P
IfSome-each None P each = tt
IfSome-each (Some x) P each = each x refl

-- nothing is an element of the empty list
pub nothing_in_nil : {X : Type 0} (x : X) → ¬ (Contains [] x)
nothing_in_nil x (k, within, is) = omega arith

-- an element of a list is its first or one of the rest
pub Contains-first_or_rest : {X : Type 0} (x y : X) (xs : List X) → Contains (x ∷ xs) y → (x ≡ y) ⊎ Contains xs y
Contains-first_or_rest x y xs (zero, within, is) = inl is
Contains-first_or_rest x y xs (suc k, within, is) = inr (k, le_of_suc-le-suc within, is)

-- and one of the rest, if it is not the first
Contains_rest : {X : Type 0} (x y : X) (xs : List X) → ¬ (x ≡ y) → Contains (x ∷ xs) y → Contains xs y
Contains_rest x y xs differ found = elim (Contains-first_or_rest x y xs found) [
  | inl same ↦ absurd (differ same)
  | inr later ↦ later
]

-- of two elements one stands before the other, if they are not one
pub AllPairs-either :
    {X : Type 0} (R : X → X → Type 0) (xs : List X) (x y : X) → AllPairs R xs → Contains xs x → Contains xs y → (x ≡ y) ⊎ (R x y ⊎ R y x)
AllPairs-either R [] x y pairs found_x found_y = absurd (nothing_in_nil x found_x)
AllPairs-either R (z ∷ xs) x y pairs found_x found_y = elim (Contains-first_or_rest z x xs found_x) [
  | inl first_x ↦ elim (Contains-first_or_rest z y xs found_y) [
    | inl first_y ↦ inl (sym first_x ∙ first_y)
    | inr later_y ↦ inr (inl (subst (λ w. R w y) first_x (All-contains (R z) xs y (AllPairs-first R z xs pairs) later_y)))
  ]
  | inr later_x ↦ elim (Contains-first_or_rest z y xs found_y) [
    | inl first_y ↦ inr (inr (subst (λ w. R w x) first_y (All-contains (R z) xs x (AllPairs-first R z xs pairs) later_x)))
    | inr later_y ↦ AllPairs-either R xs x y (AllPairs-rest R z xs pairs) later_x later_y
  ]
]

-- what holds of each pair of images holds of each pair
pub AllPairs-from_map : {X Y : Type 0} (R : Y → Y → Type 0) (f : X → Y) (xs : List X) → AllPairs R (map f xs) → AllPairs (λ x y. R (f x) (f y)) xs
AllPairs-from_map R f xs pairs i j d before within =
    subst₂ R (get_or-map f xs i d (f d) (omega (arith, before, within))) (get_or-map f xs j d (f d) within) (pairs i j (f d) before (omega (arith, within, length-map xs f)))

-- an element of the images is the image of an element
pub Contains-from_map : {X Y : Type 0} (f : X → Y) (xs : List X) (y : Y) → Contains (map f xs) y → (x : X) × Contains xs x × (f x ≡ y)
Contains-from_map f [] y found = absurd (nothing_in_nil y found)
Contains-from_map f (x ∷ xs) y found = elim (Contains-first_or_rest (f x) y (map f xs) found) [
  | inl same ↦ (x, Contains-first x x xs refl, same)
  | inr later ↦ let (z, there, is) = Contains-from_map f xs y later in (z, Contains-rest x z xs there, is)
]

-- the test finds a listed key, and no other
pub list_any-Contains : (keys : List ℕ) (key : ℕ) → Contains keys key → list_any (λ k. k == key) keys ≡ true
list_any-Contains keys key (k, within, is) = list_any-from_Any (λ k. k == key) keys (k, key, within, is, eq-eqb key key refl)

pub list_any-absent : (keys : List ℕ) (key : ℕ) → ¬ (Contains keys key) → list_any (λ k. k == key) keys ≡ false
list_any-absent keys key absent = false_from_ne_true _ (λ found.
    let (k, other, within, is, same) = Any-from_list_any (λ k. k == key) keys found in
    absent (k, within, get_or_default keys k key other within ∙ is ∙ eqb-true other key same))

-- the piece under a key is that of a listed tile
pub fresh_at-listed : (laid : List LaidTile) (key : ℕ) (piece : Piece) → fresh_at laid key ≡ Some piece → Contains laid (record { id = key; piece = piece })
fresh_at-listed [] key piece is = absurd (none-some piece is)
fresh_at-listed (entry ∷ laid) key piece is = elim (cases_Bool (entry.id == key)) [
  | inl same ↦
      let here : entry.piece ≡ piece = same_Some entry.piece piece (sym (cond-true _ (Some entry.piece) (fresh_at laid key) same) ∙ is) in
      let key_is : entry.id ≡ key = eqb-true entry.id key same in
      Contains-first entry (record { id = key; piece = piece }) laid (λ i. record { id = key_is i; piece = here i })
  | inr differ ↦ Contains-rest entry (record { id = key; piece = piece }) laid (fresh_at-listed laid key piece (sym (cond-false _ (Some entry.piece) (fresh_at laid key) differ) ∙ is))
]

-- a listed tile's key is listed, and a listed key is that of a listed tile
pub keys_of-listed : (laid : List LaidTile) (entry : LaidTile) → Contains laid entry → Contains (keys_of laid) entry.id
keys_of-listed laid entry found = Contains-map (λ (e : LaidTile). e.id) laid entry found

pub entry-keys_of : (laid : List LaidTile) (key : ℕ) → Contains (keys_of laid) key → (entry : LaidTile) × Contains laid entry × (entry.id ≡ key)
entry-keys_of laid key found = Contains-from_map (λ (e : LaidTile). e.id) laid key found

pub fresh_at-absent : (laid : List LaidTile) (key : ℕ) → ¬ (Contains (keys_of laid) key) → fresh_at laid key ≡ None
fresh_at-absent laid key absent = elim (cases_Option (fresh_at laid key)) [
  | inl none ↦ none
  | inr (piece, is) ↦ absurd (absent (keys_of-listed laid (record { id = key; piece = piece }) (fresh_at-listed laid key piece is)))
]

-- where the keys differ, each listed tile's piece is under its key
pub fresh_at-entry : (laid : List LaidTile) (entry : LaidTile) → AllPairs (λ p q. p.id ≢ q.id) laid → Contains laid entry → fresh_at laid entry.id ≡ Some entry.piece
fresh_at-entry [] entry once found = absurd (nothing_in_nil entry found)
fresh_at-entry (first ∷ laid) entry once found = elim (Contains-first_or_rest first entry laid found) [
  | inl same ↦
      cond-true _ (Some first.piece) (fresh_at laid entry.id) (eq-eqb first.id entry.id (ap (λ e. e.id) same)) ∙ ap (λ e. Some e.piece) same
  | inr later ↦
      let differ : first.id ≢ entry.id = All-contains (λ e. first.id ≢ e.id) laid entry (AllPairs-first (λ p q. p.id ≢ q.id) first laid once) later in
      cond-false _ (Some first.piece) (fresh_at laid entry.id) (false_from_ne_true _ (λ same. differ (eqb-true first.id entry.id same)))
      ∙ fresh_at-entry laid entry (AllPairs-rest (λ p q. p.id ≢ q.id) first laid once) later
]
