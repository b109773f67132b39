-- What callers see of a pool, as its slots change.
use Rattle.std.proofs.Common.{◌≡◌, ◌≢◌, ℕ, ◌+◌, eqb, cond, List, [], ◌∷◌, map, length, get_or, Option, Some, None, is_some, refl, sym, ap, ◌∙◌, inl, inr, arith, IsSome}
use Rattle.mls_tilepool.proofs.Common.{sum_by, option_map_or, cases_eq, cond-true, cond-false, eq-eqb, ne_eqb, entries_from, length-entries_from, Changes, Pool, count_of, owned, reserved, tile_at, tile_in, tiles_of, held_of, owned_slots, room_in, rooms_sum, Place, Row, Tile}
use Rattle.std.proofs.lemmas.List.Sums.{sum_by-cons}
use Rattle.std.proofs.Math.ListN.{get_or-map}
use Rattle.mls_tilepool.proofs.Slots.{entries_from-same, sum_by-change}
use Rattle.mls_tilepool.proofs.TileLists.{tile_at-place}

-- 1 for a tile, and 0 for none
abbrev pub tile_count : Option Tile → ℕ
tile_count slot = cond (is_some slot) 1 0

-- what callers see of the place under a key
pub held_at : (places : List (Option Place)) (key : ℕ) → get_or (map held_of places) key None ≡ held_of (get_or places key None)
held_at places key = get_or-map held_of places key None

-- the reserve of the owner of this number
pub room_at : (rows : List (Option Row)) (owner : ℕ) → get_or (map room_in rows) owner None ≡ room_in (get_or rows owner None)
room_at rows owner = get_or-map room_in rows owner None

-- the owner's tile under a key, by the pool's places
pub tile_at-held :
    (pool : Pool) (places : List (Option Place)) (owner key : ℕ) → pool.places ≡ map held_of places
    → tile_at pool owner key ≡ owned owner (held_of (get_or places key None))
tile_at-held pool places owner key are =
    tile_at-place pool owner key ∙ ap (λ slots. owned owner (get_or slots key None)) are ∙ ap (owned owner) (held_at places key)

-- the sum of the reserves, by the pool's rows
reserves_sum : (rows : List (Option Row)) → sum_by (λ room. option_map_or (λ tiles. tiles) room 0) (map room_in rows) ≡ rooms_sum rows
reserves_sum [] = refl
reserves_sum (None ∷ rest) =
    omega (
      arith,
      sum_by-cons (λ room. option_map_or (λ tiles. tiles) room 0) None (map room_in rest),
      sum_by-cons (λ row. option_map_or (λ (r : Row). r.room) row 0) None rest,
      reserves_sum rest,
    )
reserves_sum (Some row ∷ rest) =
    omega (
      arith,
      sum_by-cons (λ room. option_map_or (λ tiles. tiles) room 0) (Some row.room) (map room_in rest),
      sum_by-cons (λ row. option_map_or (λ (r : Row). r.room) row 0) (Some row) rest,
      reserves_sum rest,
    )

pub reserved-rows : (pool : Pool) (rows : List (Option Row)) → pool.rooms ≡ map room_in rows → reserved pool ≡ rooms_sum rows
unfolding reserved
reserved-rows pool rows are = ap (λ rooms. sum_by (λ room. option_map_or (λ tiles. tiles) room 0) rooms) are ∙ reserves_sum rows

-- how many tiles an owner has, by the pool's places
pub count_of-owned : (pool : Pool) (places : List (Option Place)) (owner : ℕ) → pool.places ≡ map held_of places → count_of pool owner ≡ length (entries_from 0 (owned_slots owner places))
unfolding tiles_of
count_of-owned pool places owner are = ap (λ slots. length (entries_from 0 (map (owned owner) slots))) are

-- the owner's tile under a key, by its slots
pub owned_at : (places : List (Option Place)) (owner key : ℕ) → get_or (owned_slots owner places) key None ≡ owned owner (held_of (get_or places key None))
owned_at places owner key = get_or-map (owned owner) (map held_of places) key None ∙ ap (owned owner) (held_at places key)

-- an owner whose tile under each key stays has the same tiles
pub tiles_of-same :
    (old new : Pool) (owner : ℕ) → ((key : ℕ) → owned owner (get_or new.places key None) ≡ owned owner (get_or old.places key None))
    → tiles_of new owner ≡ tiles_of old owner
unfolding tiles_of
tiles_of-same old new owner same =
    entries_from-same 0 (map (owned owner) old.places) (map (owned owner) new.places)
    (λ key. get_or-map (owned owner) new.places key None ∙ same key ∙ sym (get_or-map (owned owner) old.places key None))

-- an owner with no tile under any key has none
pub tiles_of-none : (pool : Pool) (owner : ℕ) → ((key : ℕ) → owned owner (get_or pool.places key None) ≡ None) → tiles_of pool owner ≡ []
unfolding tiles_of
tiles_of-none pool owner none =
    entries_from-same 0 [] (map (owned owner) pool.places) (λ key. get_or-map (owned owner) pool.places key None ∙ none key)

-- and an owner that has none has none under any key
pub owned-none : (pool : Pool) (owner key : ℕ) → tiles_of pool owner ≡ [] → owned owner (get_or pool.places key None) ≡ None
owned-none pool owner key none = sym (tile_at-place pool owner key) ∙ ap (λ list. tile_in list key) none

-- a change under one key, of one owner's tile
pub Changes-from_places :
    (old new : Pool) (owner key : ℕ) (slot : Option Tile)
    → owned owner (get_or new.places key None) ≡ slot
    → ((other : ℕ) → other ≢ owner → owned other (get_or new.places key None) ≡ owned other (get_or old.places key None))
    → ((other : ℕ) → other ≢ key → get_or new.places other None ≡ get_or old.places other None)
    → new.rooms ≡ old.rooms → new.capacity ≡ old.capacity → Changes old new owner key slot
Changes-from_places old new owner key slot here apart others rooms capacity =
    record {
      changed = tile_at-place new owner key ∙ here;
      kept = λ other differs. tile_at-place new owner other ∙ ap (owned owner) (others other differs) ∙ sym (tile_at-place old owner other);
      others = λ other differs. tiles_of-same old new other (λ k.
          elim (cases_eq k key) [
            | inl same ↦ rw same (apart other differs)
            | inr away ↦ ap (owned other) (others k away)
          ]);
      rooms = rooms;
      capacity = capacity;
    }

-- how many tiles the owner has then
pub owned_count-change :
    (old new : List (Option Place)) (owner key : ℕ)
    → ((other : ℕ) → other ≢ key → held_of (get_or new other None) ≡ held_of (get_or old other None))
    → length (entries_from 0 (owned_slots owner new)) + tile_count (owned owner (held_of (get_or old key None)))
    ≡ length (entries_from 0 (owned_slots owner old)) + tile_count (owned owner (held_of (get_or new key None)))
owned_count-change old new owner key others =
    let change = sum_by-change tile_count (owned_slots owner old) (owned_slots owner new) key refl
    (λ other differs. ap tile_count (owned_at new owner other ∙ ap (owned owner) (others other differs) ∙ sym (owned_at old owner other))) in
    omega (
      arith,
      change,
      length-entries_from 0 (owned_slots owner new),
      length-entries_from 0 (owned_slots owner old),
      ap tile_count (owned_at new owner key),
      ap tile_count (owned_at old owner key),
    )

-- a slot is the owner's, or another's
pub owned-own : (owner : ℕ) (tile : Tile) → owned owner (Some (record { owner = owner; tile = tile })) ≡ Some tile
owned-own owner tile = cond-true (eqb owner owner) (Some tile) None (eq-eqb owner owner refl)

pub owned-other : (owner other : ℕ) (tile : Tile) → other ≢ owner → owned other (Some (record { owner = owner; tile = tile })) ≡ None
owned-other owner other tile differs = cond-false (eqb owner other) (Some tile) None (ne_eqb owner other (λ same. differs (sym same)))

-- what is owned is there, under this owner
pub owned-some : (owner : ℕ) (slot : Option Place) → IsSome (owned owner (held_of slot)) → (place : Place) × (slot ≡ Some place) × (place.owner ≡ owner)
owned-some owner None there = absurd (cc)
owned-some owner (Some place) there =
    elim (cases_eq place.owner owner) [
      | inl same ↦ (place, refl, same)
      | inr differs ↦ let none : owned owner (held_of (Some place)) ≡ None = cond-false (eqb place.owner owner) (Some place.tile) None (ne_eqb place.owner owner differs) in absurd (cc)
    ]
