-- What callers see of a sound pool.
use Rattle.std.proofs.Common.{◌≡◌, ◌≢◌, ℕ, ◌-◌, eqb, List, [], ◌∷◌, map, length, set, Option, Some, None, IsSome, IfSome, is_some, refl, sym, ap, ◌∙◌, inl, inr, arith, Contains}
use Rattle.mls_tilepool.proofs.Common.{cases_eq, cond-true, cond-false, eq-eqb, ne_eqb, Slab, ContainsKey, get, with_value, IsOwner, ListsTiles, Pool, count_of, owned, room_of, tile_at, tile_in, tiles_of, unreserved, IsChain, IsPool, held_of, pool_of, room_in, tiles_from, Place, Row}
use Rattle.std.proofs.lemmas.List.{map-set, set-get_or}
use Rattle.mls_tilepool.proofs.Chains.{IsChain-head, IsChain-owner}
use Rattle.mls_tilepool.proofs.ChainTiles.{length-tiles_from, tile_in-tiles_from, tile_in-tiles_from_none}
use Rattle.mls_tilepool.proofs.PoolChanges.{count_of-owned, owned-some, reserved-rows, room_at, tile_at-held}

-- a fact of the value that is there
pub IfSome-at : {X : Type 0} (P : X → Type 0) (o : Option X) (x : X) → o ≡ Some x → P x → IfSome o P
IfSome-at P None x there holds = cc
IfSome-at P (Some y) x there holds = let same : y ≡ x = cc in rw same holds

pub some_value : {X : Type 0} (o : Option X) → IsSome o → (x : X) × (o ≡ Some x)
some_value None there = absurd (cc)
some_value (Some x) there = (x, refl)

-- an owner's slot, and another's
pub owned-held : (owner : ℕ) (place : Place) → place.owner ≡ owner → owned owner (held_of (Some place)) ≡ Some place.tile
owned-held owner place owns = cond-true (eqb place.owner owner) (Some place.tile) None (eq-eqb place.owner owner owns)

pub owned-not : (owner : ℕ) (place : Place) → place.owner ≢ owner → owned owner (held_of (Some place)) ≡ None
owned-not owner place differs = cond-false (eqb place.owner owner) (Some place.tile) None (ne_eqb place.owner owner differs)

row_live : (row : Option Row) → IsSome (room_in row) → IsSome row
row_live None live = live
row_live (Some row) live = refl

-- a list of no elements
empty_list : {X : Type 0} (xs : List X) → length xs ≡ 0 → xs ≡ []
empty_list [] none = refl
empty_list (x ∷ xs) none = absurd (omega (arith, none))

-- an owner's tile under a key: the owner's row, and the place under the key
pub record HoldsTile (capacity reserved : ℕ) (places : Slab Place) (rows : Slab Row) (owner key : ℕ) (row : Row) (place : Place) : Type 0 where
  pub is : IsPool capacity reserved places rows
  pub row_is : get rows owner ≡ Some row
  pub found : get places key ≡ Some place
  pub owns : place.owner ≡ owner

module _ (capacity reserved : ℕ) (places : Slab Place) (rows : Slab Row) where
  abbrev pub viewed : Pool
  viewed = pool_of capacity places.slots rows.slots

  -- a tile under a key, by its slot
  pub tile_at-slot : (owner key : ℕ) → tile_at viewed owner key ≡ owned owner (held_of (get places key))
  tile_at-slot owner key = tile_at-held viewed places.slots owner key refl

  pub tile_at-place_own : (owner key : ℕ) (place : Place) → get places key ≡ Some place → place.owner ≡ owner → tile_at viewed owner key ≡ Some place.tile
  tile_at-place_own owner key place found owns =
      tile_at-slot owner key ∙ ap (λ slot. owned owner (held_of slot)) found ∙ owned-held owner place owns

  pub tile_at-place_other : (owner key : ℕ) (place : Place) → get places key ≡ Some place → place.owner ≢ owner → tile_at viewed owner key ≡ None
  tile_at-place_other owner key place found differs =
      tile_at-slot owner key ∙ ap (λ slot. owned owner (held_of slot)) found ∙ owned-not owner place differs

  pub tile_at-vacant : (owner key : ℕ) → get places key ≡ None → tile_at viewed owner key ≡ None
  tile_at-vacant owner key vacant = tile_at-slot owner key ∙ ap (λ slot. owned owner (held_of slot)) vacant

  -- a tile of the owner's has a place, under this owner
  pub place_of : (owner key : ℕ) → IsSome (tile_at viewed owner key) → (place : Place) × (get places key ≡ Some place) × (place.owner ≡ owner)
  place_of owner key there = owned-some owner (get places key) (ap is_some (sym (tile_at-slot owner key)) ∙ there)

  pub place_there : (owner key : ℕ) → IsSome (tile_at viewed owner key) → ContainsKey places key
  place_there owner key there = let place = place_of owner key there in ap is_some place.1

  pub place_owner : (owner key : ℕ) (place : Place) → IsSome (tile_at viewed owner key) → get places key ≡ Some place → place.owner ≡ owner
  place_owner owner key place there found =
      let own = place_of owner key there in
      let both : Some own.0 ≡ Some place = sym own.1 ∙ found in
      let same : own.0 ≡ place = cc in
      ap (λ p. p.owner) (sym same) ∙ own.2

  pub holds_tile : IsPool capacity reserved places rows → (owner key : ℕ) (row : Row) (place : Place) → IsSome (tile_at viewed owner key)
      → get rows owner ≡ Some row → get places key ≡ Some place → HoldsTile capacity reserved places rows owner key row place
  holds_tile is owner key row place there row_is found = record { is = is; row_is = row_is; found = found; owns = place_owner owner key place there found }

  -- an owner has a row
  pub owner_row : (owner : ℕ) → IsOwner viewed owner → ContainsKey rows owner
  owner_row owner live = row_live (get rows owner) (ap is_some (sym (room_at rows.slots owner)) ∙ live)

  -- an owner's reserve, by its row
  pub room_of-row : (owner : ℕ) (row : Row) → get rows owner ≡ Some row → room_of viewed owner ≡ Some row.room
  room_of-row owner row found = room_at rows.slots owner ∙ ap room_in found

  module _ (is : IsPool capacity reserved places rows) where
    pub unreserved-pool : capacity - reserved ≡ unreserved viewed
    unreserved-pool = ap (λ r. capacity - r) (is.sum ∙ sym (reserved-rows viewed rows.slots refl))

    -- the owner of a place has a row
    pub row_there : (owner key : ℕ) → IsSome (tile_at viewed owner key) → ContainsKey rows owner
    row_there owner key there =
        let place = place_of owner key there in
        ap (λ k. is_some (get rows k)) (sym place.2) ∙ is.each key place.0 place.1

    module _ (owner : ℕ) (row : Row) (found : get rows owner ≡ Some row) where
      pub count_of-row : row.count ≡ count_of viewed owner
      count_of-row = (is.owners owner row found).count ∙ sym (count_of-owned viewed places.slots owner refl)

      -- the first of the owner's tiles
      pub first_tile : (key : ℕ) → row.first ≡ Some key → IsSome (tile_at viewed owner key)
      first_tile key leads =
          let own = is.owners owner row found in
          let inside = IsChain-head places.slots owner None row.first own.keys key own.chain leads in
          let place = IsChain-owner places.slots owner None row.first own.keys key own.chain inside in
          ap is_some (tile_at-place_own owner key place.0 place.1 place.2)

      no_keys : (keys : List ℕ) → IsChain places.slots owner None row.first keys → row.first ≡ None → length keys ≡ 0
      no_keys [] chain none = refl
      no_keys (key ∷ rest) chain none = let link = chain.0 in cc

      pub first_none : row.first ≡ None → tiles_of viewed owner ≡ []
      first_none none =
          let own = is.owners owner row found in
          empty_list (tiles_of viewed owner) (omega (arith, count_of-row, own.each, no_keys own.keys own.chain none))

      -- the tiles along the chain are the owner's
      chain_lists : (key : ℕ) (slot : Option Place) → get places key ≡ slot → tile_in (tiles_from places.slots row.count row.first) key ≡ owned owner (held_of (get places key))
      chain_lists key None at =
          let own = is.owners owner row found in
          let outside : ¬ Contains own.keys key = λ inside.
          let place = IsChain-owner places.slots owner None row.first own.keys key own.chain inside in
          let there = place.1 in
          cc in
          ap (λ n. tile_in (tiles_from places.slots n row.first) key) (sym own.each)
          ∙ tile_in-tiles_from_none places.slots owner None row.first own.keys key own.chain outside
          ∙ sym (ap (λ s. owned owner (held_of s)) at)
      chain_lists key (Some place) at =
          let own = is.owners owner row found in
          ap (λ n. tile_in (tiles_from places.slots n row.first) key) (sym own.each)
          ∙ elim (cases_eq place.owner owner) [
            | inl same ↦ tile_in-tiles_from places.slots owner None row.first own.keys key own.chain (own.all key place at same)
            | inr differs ↦
                let outside : ¬ Contains own.keys key = λ inside.
                let there = IsChain-owner places.slots owner None row.first own.keys key own.chain inside in
                let both : Some there.0 ≡ Some place = sym there.1 ∙ at in
                let same : there.0 ≡ place = cc in
                differs (ap (λ p. p.owner) (sym same) ∙ there.2) in
                tile_in-tiles_from_none places.slots owner None row.first own.keys key own.chain outside
                ∙ sym (ap (λ s. owned owner (held_of s)) at ∙ owned-not owner place differs)
          ]

      pub ListsTiles-chain : ListsTiles viewed owner (tiles_from places.slots row.count row.first)
      ListsTiles-chain =
          let own = is.owners owner row found in
          record {
            whole = λ key. chain_lists key (get places key) refl ∙ sym (tile_at-slot owner key);
            count =
                ap (λ n. length (tiles_from places.slots n row.first)) (sym own.each)
                ∙ length-tiles_from places.slots owner None row.first own.keys own.chain
                ∙ own.each ∙ count_of-row;
          }

      -- a row with the same reserve leaves the reserves as they were
      pub rooms_kept : (row' : Row) → row'.room ≡ row.room → map room_in (with_value rows owner row').slots ≡ map room_in rows.slots
      rooms_kept row' same =
          map-set room_in rows.slots owner (Some row')
          ∙ ap (λ room. set (map room_in rows.slots) owner room) (ap Some same ∙ sym (room_of-row owner row found))
          ∙ set-get_or (map room_in rows.slots) owner None
