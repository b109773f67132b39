-- Several owners of one pool: what a change of their tiles leaves, and what adding them leaves. This project's own.
use Rattle.std.specs.Prelude.{◌≡◌, ◌≢◌, ℕ, ◌+◌, None, List, []}
use Rattle.std.specs.List.{All, Contains}
use Rattle.mls_tilepool.specs.Pools.{Pool, room_of, tiles_of, unreserved}

-- only tiles of these owners have changed: all others are equal in every field, and so are all reserves and the capacity
pub record ChangesAmong (old new : Pool) (owners : List ℕ) : Type 0 where
  pub others : (other : ℕ) → ¬ (Contains owners other) → tiles_of new other ≡ tiles_of old other
  pub rooms : new.rooms ≡ old.rooms
  pub capacity : new.capacity ≡ old.capacity

-- these owners are new, each with a reserve, have reserved this many tiles together, and everything else is as it was
pub record AddsOwners (old new : Pool) (owners : List ℕ) (tiles : ℕ) : Type 0 where
  pub unused : All (λ owner. room_of old owner ≡ None) owners
  pub live : All (λ owner. room_of new owner ≢ None) owners
  pub rooms : (other : ℕ) → ¬ (Contains owners other) → room_of new other ≡ room_of old other
  pub others : (other : ℕ) → ¬ (Contains owners other) → tiles_of new other ≡ tiles_of old other
  pub taken : unreserved new + tiles ≡ unreserved old
  pub capacity : new.capacity ≡ old.capacity

-- the owner has no reserve and no tiles
pub record IsGone (pool : Pool) (owner : ℕ) : Type 0 where
  pub room : room_of pool owner ≡ None
  pub empty : tiles_of pool owner ≡ []

-- these owners are gone, have given back this many reserved tiles together, and everything else is as it was
pub record RemovesOwners (old new : Pool) (owners : List ℕ) (tiles : ℕ) : Type 0 where
  pub gone : All (IsGone new) owners
  pub rooms : (other : ℕ) → ¬ (Contains owners other) → room_of new other ≡ room_of old other
  pub others : (other : ℕ) → ¬ (Contains owners other) → tiles_of new other ≡ tiles_of old other
  pub given_back : unreserved new ≡ unreserved old + tiles
  pub capacity : new.capacity ≡ old.capacity
