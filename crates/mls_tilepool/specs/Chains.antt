-- How the pool keeps an owner's tiles: each owner has a row, and its tiles are a doubly linked list that runs through their places.
use Rattle.std.specs.Prelude.{◌≡◌, ℕ, zero, suc, ◌≤◌, ◌==◌, if◌then◌else◌, Bool, false, List, [], ◌∷◌, map, length, Option, Some, None, slice_index_or}
use Rattle.std.specs.List.{Contains, sum_by}
use Rattle.std.specs.Option.{option_map, option_map_or}
use Rattle.slab.specs.Slab.{Slab, get, ContainsKey, entries_from, slab_len}
use Rattle.mls_tilepool.specs.Pools.{Held, Pool, owned}
use Rattle.mls_tilepool.specs.declared.chain.Place.{Place}
use Rattle.mls_tilepool.specs.declared.chain.Row.{Row}
use Rattle.mls_tilepool.specs.declared.tile.Tile.{Tile}

-- what callers see of a place
abbrev pub held_of : Option Place → Option Held
held_of place = option_map (λ p. record { owner = p.owner; tile = p.tile }) place

-- what callers see of a row
abbrev pub room_in : Option Row → Option ℕ
room_in row = option_map (λ r. r.room) row

-- what callers see of a pool
abbrev pub pool_of : ℕ → List (Option Place) → List (Option Row) → Pool
pool_of capacity places rows = record { capacity = capacity; rooms = map room_in rows; places = map held_of places }

-- the tiles under these links, each with its key, of at most this many places
abbrev pub tiles_from : List (Option Place) → ℕ → Option ℕ → List (ℕ × Tile)
tiles_from places zero link = []
tiles_from places (suc left) None = []
tiles_from places (suc left) (Some key) =
    option_map_or (λ place. (key, place.tile) ∷ tiles_from places left place.next) (slice_index_or places key None) []

-- the links lead through the places under these keys, each once, and through no other: each place is the owner's, and has the one before
abbrev pub IsChain : List (Option Place) → ℕ → Option ℕ → Option ℕ → List ℕ → Type 0
IsChain places owner previous link [] = link ≡ None
IsChain places owner previous link (key ∷ rest) =
    (link ≡ Some key)
    × (¬ Contains rest key)
    × (place : Place)
    × (slice_index_or places key None ≡ Some place)
    × (place.owner ≡ owner)
    × (place.previous ≡ previous)
    × IsChain places owner (Some key) place.next rest

-- for each key the owner's tile
abbrev pub owned_slots : ℕ → List (Option Place) → List (Option Tile)
owned_slots owner places = map (owned owner) (map held_of places)

-- the owner has room, and its chain has all its places
pub record IsRow (places : List (Option Place)) (owner : ℕ) (row : Row) : Type 0 where
  pub some : 1 ≤ row.room
  pub within : row.count ≤ row.room
  pub count : row.count ≡ length (entries_from 0 (owned_slots owner places))
  pub keys : List ℕ
  pub chain : IsChain places owner None row.first keys
  pub each : length keys ≡ row.count
  pub all : (key : ℕ) (place : Place) → slice_index_or places key None ≡ Some place → place.owner ≡ owner → Contains keys key

-- the sum of the owners' reserves
abbrev pub rooms_sum : List (Option Row) → ℕ
rooms_sum rows = sum_by (λ row. option_map_or (λ r. r.room) row 0) rows

-- how many tiles all owners have
abbrev pub counts_sum : List (Option Row) → ℕ
counts_sum rows = sum_by (λ row. option_map_or (λ r. r.count) row 0) rows

-- how many keys there are of 32 bits
abbrev pub key_limit : ℕ
key_limit = 4294967296

-- the reserves fit, keys take 32 bits, each row is as it has to be, and each place is an owner's
pub record IsPool (capacity reserved : ℕ) (places : Slab Place) (rows : Slab Row) : Type 0 where
  pub sum : reserved ≡ rooms_sum rows.slots
  pub within : reserved ≤ capacity
  pub place_room : capacity ≤ places.capacity
  pub row_room : capacity ≤ rows.capacity
  pub place_keys : places.capacity ≤ key_limit
  pub row_keys : rows.capacity ≤ key_limit
  pub tiles : slab_len places ≡ counts_sum rows.slots
  pub owners : (owner : ℕ) (row : Row) → get rows owner ≡ Some row → IsRow places.slots owner row
  pub each : (key : ℕ) (place : Place) → get places key ≡ Some place → ContainsKey rows place.owner

-- the link leads to this key
abbrev pub links_to : Option ℕ → ℕ → Bool
links_to None key = false
links_to (Some other) key = other == key

-- the place to which the link leads, if there is one, is changed so, and the others are as they were
pub record Links (change : Place → Place) (link : Option ℕ) (old new : Slab Place) : Type 0 where
  pub places : (key : ℕ) → get new key ≡ (if links_to link key then option_map change (get old key) else get old key)
  pub len : slab_len new ≡ slab_len old
  pub capacity : new.capacity ≡ old.capacity
