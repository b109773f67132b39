-- A pool of tiles under owners. Ousterhout 1984 has a tile with its lower-left corner, its type and four stitches; owners and reserves are this
-- project's own. A key names a tile as long as the tile lies in the pool.
use Rattle.std.specs.Prelude.{◌≡◌, ◌≢◌, ℕ, ◌-◌, ◌==◌, if◌then◌else◌, List, [], ◌∷◌, map, length, Option, Some, None, IsSome, slice_index_or}
use Rattle.std.specs.List.{sum_by}
use Rattle.std.specs.Option.{option_map_or}
use Rattle.slab.specs.Slab.{entries_from}
use Rattle.mls_tilepool.specs.declared.tile.Tile.{Tile}

-- a tile, and the number of its owner
pub record Held : Type 0 where
  pub owner : ℕ
  pub tile : Tile

-- how many tiles there may be, for each owner's number how many tiles it has reserved, and for each key the tile that it names
pub record Pool : Type 0 where
  pub capacity : ℕ
  pub rooms : List (Option ℕ)
  pub places : List (Option Held)

-- how many tiles the owner has reserved, if there is one of this number
abbrev pub room_of : Pool → ℕ → Option ℕ
room_of pool owner = slice_index_or pool.rooms owner None

-- the pool has an owner of this number
abbrev pub IsOwner : Pool → ℕ → Type 0
IsOwner pool owner = IsSome (room_of pool owner)

-- how many tiles all owners together have reserved
unfoldable pub reserved : Pool → ℕ
reserved pool = sum_by (λ room. option_map_or (λ tiles. tiles) room 0) pool.rooms

-- how many tiles can still be reserved
abbrev pub unreserved : Pool → ℕ
unreserved pool = pool.capacity - reserved pool

-- the tile, if it is the owner's
abbrev pub owned : ℕ → Option Held → Option Tile
owned owner None = None
owned owner (Some held) = if held.owner == owner then Some held.tile else None

-- the owner's tiles, each with its key, by rising key
unfoldable pub tiles_of : Pool → ℕ → List (ℕ × Tile)
tiles_of pool owner = entries_from 0 (map (owned owner) pool.places)

-- the tile under a key
abbrev pub tile_in : List (ℕ × Tile) → ℕ → Option Tile
tile_in [] key = None
tile_in (entry ∷ rest) key = if entry.0 == key then Some entry.1 else tile_in rest key

-- the owner's tile under a key
abbrev pub tile_at : Pool → ℕ → ℕ → Option Tile
tile_at pool owner key = tile_in (tiles_of pool owner) key

-- how many tiles the owner has
abbrev pub count_of : Pool → ℕ → ℕ
count_of pool owner = length (tiles_of pool owner)

-- under one owner one key has this, and everything else is as it was: the owner's other keys, all tiles of all other owners in every field, all
-- reserves, and the capacity
pub record Changes (old new : Pool) (owner key : ℕ) (slot : Option Tile) : Type 0 where
  pub changed : tile_at new owner key ≡ slot
  pub kept : (other : ℕ) → other ≢ key → tile_at new owner other ≡ tile_at old owner other
  pub others : (other : ℕ) → other ≢ owner → tiles_of new other ≡ tiles_of old other
  pub rooms : new.rooms ≡ old.rooms
  pub capacity : new.capacity ≡ old.capacity

-- only tiles of this owner have changed: all others are equal in every field, and so are all reserves and the capacity
pub record ChangesOnly (old new : Pool) (owner : ℕ) : Type 0 where
  pub others : (other : ℕ) → other ≢ owner → tiles_of new other ≡ tiles_of old other
  pub rooms : new.rooms ≡ old.rooms
  pub capacity : new.capacity ≡ old.capacity

-- one owner has this reserve and no tile, and everything else is as it was: all reserves and tiles of all other owners, and the capacity
pub record Reserves (old new : Pool) (owner : ℕ) (tiles : Option ℕ) : Type 0 where
  pub room : room_of new owner ≡ tiles
  pub rooms : (other : ℕ) → other ≢ owner → room_of new other ≡ room_of old other
  pub empty : tiles_of new owner ≡ []
  pub others : (other : ℕ) → other ≢ owner → tiles_of new other ≡ tiles_of old other
  pub capacity : new.capacity ≡ old.capacity

-- the list has the owner's tiles, each once, in any order
pub record ListsTiles (pool : Pool) (owner : ℕ) (list : List (ℕ × Tile)) : Type 0 where
  pub whole : (key : ℕ) → tile_in list key ≡ tile_at pool owner key
  pub count : length list ≡ count_of pool owner
