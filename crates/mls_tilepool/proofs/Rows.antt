-- Rows of owners while places change.
use Rattle.std.proofs.Common.{◌≡◌, ◌≢◌, ℕ, eqb, List, length, get_or, Option, Some, None, refl, sym, ap, ◌∙◌, ◌⊎◌, inl, inr}
use Rattle.mls_tilepool.proofs.Common.{cond-false, ne_eqb, option_map, owned, IsRow, held_of, owned_slots, Place, Row}
use Rattle.mls_tilepool.proofs.Slots.{entries_from-same}
use Rattle.mls_tilepool.proofs.Chains.{IsChain-owner, IsChain-same, links_of, option_map-some}
use Rattle.mls_tilepool.proofs.PoolChanges.{owned_at}

-- a slot is empty, or this owner's
abbrev pub IsOwn : ℕ → Option Place → Type 0
IsOwn owner slot = (place : Place) → slot ≡ Some place → place.owner ≡ owner

-- each slot stays, or was and is this owner's
abbrev pub OthersStay : ℕ → List (Option Place) → List (Option Place) → Type 0
OthersStay owner old new = (key : ℕ) → (get_or new key None ≡ get_or old key None) ⊎ (IsOwn owner (get_or old key None) × IsOwn owner (get_or new key None))

-- another owner finds nothing in an owner's slot
pub IsOwn-other : (owner other : ℕ) (slot : Option Place) → other ≢ owner → IsOwn owner slot → owned other (held_of slot) ≡ None
IsOwn-other owner other None differs own = refl
IsOwn-other owner other (Some place) differs own =
    cond-false (eqb place.owner other) (Some place.tile) None (ne_eqb place.owner other (λ same. differs (sym same ∙ own place refl)))

-- a slot that callers see the same is still this owner's
pub IsOwn-held : (owner : ℕ) (old new : Option Place) → held_of new ≡ held_of old → IsOwn owner old → IsOwn owner new
IsOwn-held owner old new same own place found =
    let moved : held_of old ≡ held_of (Some place) = sym same ∙ ap held_of found in
    let there = option_map-some (λ (p : Place). record { owner = p.owner; tile = p.tile }) old (record { owner = place.owner; tile = place.tile }) moved in
    sym (ap (λ h. h.owner) there.2) ∙ own there.0 there.1

-- the row of another owner stays right
pub IsRow-others :
    (old new : List (Option Place)) (owner other : ℕ) (row : Row) → OthersStay owner old new → other ≢ owner → IsRow old other row → IsRow new other row
IsRow-others old new owner other row stay differs is =
    let there : (key : ℕ) (place : Place) → get_or old key None ≡ Some place → place.owner ≡ other → get_or new key None ≡ get_or old key None =
    λ key place found owns. elim (stay key) [ inl same ↦ same | inr own ↦ absurd (differs (sym owns ∙ own.0 place found)) ] in
    record {
      some = is.some;
      within = is.within;
      count = is.count ∙ ap length (sym (entries_from-same 0 (owned_slots other old) (owned_slots other new) (λ key.
          owned_at new other key
          ∙ elim (stay key) [
            | inl same ↦ ap (λ slot. owned other (held_of slot)) same
            | inr own ↦ IsOwn-other owner other (get_or new key None) differs own.1 ∙ sym (IsOwn-other owner other (get_or old key None) differs own.0)
          ]
          ∙ sym (owned_at old other key))));
      keys = is.keys;
      chain = IsChain-same old new other None row.first is.keys (λ key inside.
          let place = IsChain-owner old other None row.first is.keys key is.chain inside in
          ap (option_map links_of) (there key place.0 place.1 place.2)) is.chain;
      each = is.each;
      all = λ key place found owns.
          elim (stay key) [
            | inl same ↦ is.all key place (sym same ∙ found) owns
            | inr own ↦ absurd (differs (sym owns ∙ own.1 place found))
          ];
    }
