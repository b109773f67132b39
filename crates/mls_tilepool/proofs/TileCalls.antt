-- What adding, replacing and removing a tile leave of a pool.
use Rattle.std.proofs.Common.{◌≡◌, ◌≢◌, ℕ, ◌+◌, ◌-◌, ◌<◌, ◌≤◌, eqb, cond, List, set, Option, Some, None, refl, sym, ap, ◌∙◌, inl, inr, arith}
use Rattle.mls_tilepool.proofs.Common.{cases_eq, cond-true, cond-false, eq-eqb, ne_eqb, Slab, Updates, get, slab_len, with_value, Changes, count_of, owned, IsPool, Links, held_of, pool_of, Place, Row, Tile}
use Rattle.std.proofs.lemmas.List.{set-get_or}
use Rattle.mls_tilepool.proofs.Adding.{AddsPlace, added_held, added_here, added_row, added_stay, fresh_place}
use Rattle.mls_tilepool.proofs.PoolChanges.{Changes-from_places, held_at, owned-other, owned-own}
use Rattle.mls_tilepool.proofs.PoolSteps.{IsPool-written, get-with_value, get-with_value_other, retiled_row, retiled_stay, slab_len-with_value}
use Rattle.mls_tilepool.proofs.PoolViews.{HoldsTile, count_of-row, owned-held, owned-not, rooms_kept}
use Rattle.mls_tilepool.proofs.Relinking.{linked, with_next, with_previous}
use Rattle.mls_tilepool.proofs.Removing.{RemovesPlace, first_after, removed_counted, removed_held, removed_here, removed_row, removed_stay}

-- a slab with one key changed, by a test of the key
updated : (old new : Slab Place) (key : ℕ) (slot : Option Place) → Updates old new key slot → (k : ℕ) → get new k ≡ cond (eqb k key) slot (get old k)
updated old new key slot updates k =
    elim (cases_eq k key) [
      | inl same ↦ ap (get new) same ∙ updates.changed ∙ sym (cond-true (eqb k key) slot (get old k) (eq-eqb k key same))
      | inr differs ↦ updates.others k differs ∙ sym (cond-false (eqb k key) slot (get old k) (ne_eqb k key differs))
    ]

-- what callers see where one owner's place changes
Changes-from_held :
    (capacity : ℕ) (old new : Slab Place) (rows rows' : List (Option Row)) (owner key : ℕ) (slot : Option Tile)
    → owned owner (held_of (get new key)) ≡ slot
    → ((other : ℕ) → other ≢ owner → owned other (held_of (get new key)) ≡ owned other (held_of (get old key)))
    → ((k : ℕ) → k ≢ key → held_of (get new k) ≡ held_of (get old k))
    → (pool_of capacity new.slots rows').rooms ≡ (pool_of capacity old.slots rows).rooms
    → Changes (pool_of capacity old.slots rows) (pool_of capacity new.slots rows') owner key slot
Changes-from_held capacity old new rows rows' owner key slot here apart others rooms =
    Changes-from_places (pool_of capacity old.slots rows) (pool_of capacity new.slots rows') owner key slot
    (ap (owned owner) (held_at new.slots key) ∙ here)
    (λ other differs. ap (owned other) (held_at new.slots key) ∙ apart other differs ∙ sym (ap (owned other) (held_at old.slots key)))
    (λ k differs. held_at new.slots k ∙ others k differs ∙ sym (held_at old.slots k))
    rooms refl

module _ (capacity reserved : ℕ) (places : Slab Place) (rows : Slab Row) (owner : ℕ) (row : Row) (is : IsPool capacity reserved places rows) (row_is : get rows owner ≡ Some row) where
  -- adding
  module _ (inserted linked_up : Slab Place) (key : ℕ) (tile : Tile)
      (vacant : get places key ≡ None)
      (updates : Updates places inserted key (Some (fresh_place owner tile row.first)))
      (links : Links (with_previous (Some key)) row.first inserted linked_up) where
    abbrev added_to : Row
    added_to = record { room = row.room; count = row.count + 1; first = Some key }

    adds : AddsPlace places.slots linked_up.slots key row.first (fresh_place owner tile row.first)
    adds k = links.places k ∙ ap (linked (with_previous (Some key)) row.first k) (updated places inserted key _ updates k)

    pub IsPool-added :
        row.count < row.room → slab_len inserted ≡ slab_len places + 1 → inserted.capacity ≡ places.capacity
        → IsPool capacity reserved linked_up (with_value rows owner added_to)
    IsPool-added fits len space =
        let own = is.owners owner row row_is in
        IsPool-written capacity reserved places linked_up rows owner row added_to is row_is refl (links.capacity ∙ space)
        (omega (arith, links.len, len))
        (added_stay places.slots linked_up.slots owner row key tile own vacant adds)
        (added_row places.slots linked_up.slots owner row key tile own fits vacant adds)

    pub Changes-added : Changes (pool_of capacity places.slots rows.slots) (pool_of capacity linked_up.slots (with_value rows owner added_to).slots) owner key (Some tile)
    Changes-added =
        let own = is.owners owner row row_is in
        let here = ap held_of (added_here places.slots linked_up.slots owner row key tile own vacant adds) in
        Changes-from_held capacity places linked_up rows.slots (with_value rows owner added_to).slots owner key (Some tile)
        (ap (owned owner) here ∙ owned-own owner tile)
        (λ other differs. ap (owned other) here ∙ owned-other owner other tile differs ∙ sym (ap (λ s. owned other (held_of s)) vacant))
        (added_held places.slots linked_up.slots owner row key tile adds)
        (rooms_kept capacity reserved places rows is owner row row_is added_to refl)

    pub count_of-added :
        row.count < row.room → slab_len inserted ≡ slab_len places + 1 → inserted.capacity ≡ places.capacity
        → count_of (pool_of capacity linked_up.slots (with_value rows owner added_to).slots) owner ≡ count_of (pool_of capacity places.slots rows.slots) owner + 1
    count_of-added fits len space =
        let now = count_of-row capacity reserved linked_up (with_value rows owner added_to) (IsPool-added fits len space) owner added_to (get-with_value rows owner row added_to row_is) in
        let was = count_of-row capacity reserved places rows is owner row row_is in
        omega (arith, now, was)

-- replacing and removing
module _ {capacity reserved : ℕ} {places : Slab Place} {rows : Slab Row} {owner key : ℕ} {row : Row} {place : Place} (held : HoldsTile capacity reserved places rows owner key row place) where
  module _ (tile : Tile) where
    abbrev with_tile : Slab Place
    with_tile = with_value places key (record place { tile = tile })

    same_rows : with_value rows owner row ≡ rows
    same_rows = ap (λ slots. record rows { slots = slots }) (ap (set rows.slots owner) (sym held.row_is) ∙ set-get_or rows.slots owner None)

    pub IsPool-retiled : IsPool capacity reserved with_tile rows
    IsPool-retiled =
        rw same_rows at (IsPool-written capacity reserved places with_tile rows owner row row held.is held.row_is refl refl
        (omega (arith, slab_len-with_value places key place (record place { tile = tile }) held.found))
        (retiled_stay places owner row key place tile held.found held.owns)
        (retiled_row places owner row key place tile (held.is.owners owner row held.row_is) held.found held.owns))

    pub Changes-retiled : Changes (pool_of capacity places.slots rows.slots) (pool_of capacity with_tile.slots rows.slots) owner key (Some tile)
    Changes-retiled =
        let here : get with_tile key ≡ Some (record place { tile = tile }) = get-with_value places key place (record place { tile = tile }) held.found in
        Changes-from_held capacity places with_tile rows.slots rows.slots owner key (Some tile)
        (ap (λ s. owned owner (held_of s)) here ∙ owned-held owner (record place { tile = tile }) held.owns)
        (λ other differs.
        let not_own : place.owner ≢ other = λ same. differs (sym same ∙ held.owns) in
        ap (λ s. owned other (held_of s)) here ∙ owned-not other (record place { tile = tile }) not_own
        ∙ sym (ap (λ s. owned other (held_of s)) held.found ∙ owned-not other place not_own))
        (λ k differs. ap held_of (get-with_value_other places key k place (record place { tile = tile }) held.found differs))
        refl

    pub count_of-retiled : count_of (pool_of capacity with_tile.slots rows.slots) owner ≡ count_of (pool_of capacity places.slots rows.slots) owner
    count_of-retiled =
        sym (count_of-row capacity reserved with_tile rows IsPool-retiled owner row held.row_is) ∙ count_of-row capacity reserved places rows held.is owner row held.row_is

  pub counted : 1 ≤ row.count
  counted = removed_counted places.slots places.slots owner row key place (held.is.owners owner row held.row_is) held.found held.owns

  module _ (removed between after : Slab Place)
      (updates : Updates places removed key None)
      (onward : Links (with_next place.next) place.previous removed between)
      (back : Links (with_previous place.previous) place.next between after) where
    abbrev removed_from : Row
    removed_from = record { room = row.room; count = row.count - 1; first = first_after place.previous place.next row.first }

    removes : RemovesPlace places.slots after.slots key place
    removes k =
        back.places k
        ∙ ap (linked (with_previous place.previous) place.next k)
        (onward.places k ∙ ap (linked (with_next place.next) place.previous k) (updated places removed key None updates k))

    pub IsPool-removed : slab_len removed + 1 ≡ slab_len places → removed.capacity ≡ places.capacity → IsPool capacity reserved after (with_value rows owner removed_from)
    IsPool-removed len space =
        let own = held.is.owners owner row held.row_is in
        IsPool-written capacity reserved places after rows owner row removed_from held.is held.row_is refl (back.capacity ∙ onward.capacity ∙ space)
        (omega (arith, back.len, onward.len, len, counted))
        (removed_stay places.slots after.slots owner row key place own held.found held.owns removes)
        (removed_row places.slots after.slots owner row key place own held.found held.owns removes)

    pub Changes-removed : Changes (pool_of capacity places.slots rows.slots) (pool_of capacity after.slots (with_value rows owner removed_from).slots) owner key None
    Changes-removed =
        let here = ap held_of (removed_here places.slots after.slots owner row key place removes) in
        Changes-from_held capacity places after rows.slots (with_value rows owner removed_from).slots owner key None
        (ap (owned owner) here)
        (λ other differs.
        ap (owned other) here
        ∙ sym (ap (λ s. owned other (held_of s)) held.found ∙ owned-not other place (λ same. differs (sym same ∙ held.owns))))
        (removed_held places.slots after.slots owner row key place removes)
        (rooms_kept capacity reserved places rows held.is owner row held.row_is removed_from refl)

    pub count_of-removed :
        slab_len removed + 1 ≡ slab_len places → removed.capacity ≡ places.capacity
        → count_of (pool_of capacity after.slots (with_value rows owner removed_from).slots) owner + 1 ≡ count_of (pool_of capacity places.slots rows.slots) owner
    count_of-removed len space =
        let now = count_of-row capacity reserved after (with_value rows owner removed_from) (IsPool-removed len space) owner removed_from (get-with_value rows owner row removed_from held.row_is) in
        let was = count_of-row capacity reserved places rows held.is owner row held.row_is in
        omega (arith, now, was, counted)
