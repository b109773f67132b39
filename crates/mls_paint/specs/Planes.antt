-- Planes in maximal horizontal strips, as Ousterhout 1984 has them, and what they show.
use Rattle.std.specs.Prelude.{◌≡◌, ◌≢◌, ℕ, Option, Some, None, List, slice_get}
use Rattle.mls_geom.specs.Layouts.{Layout}
use Rattle.mls_geom.specs.Pictures.{Picture, empty_picture}
use Rattle.mls_tilepool.specs.Pools.{Pool, room_of, tiles_of}
use Rattle.mls_stitch.specs.Tilings.{HasPlane, IsMaximal, shown}

-- what the tiles of an owner show
abbrev pub picture_in : Pool → ℕ → Picture
picture_in pool owner = shown (tiles_of pool owner)

-- the owner's tiles are a plane, and are the maximal strips of what they show
pub record HasStrips (pool : Pool) (owner : ℕ) : Type 0 where
  pub plane : HasPlane pool owner
  pub maximal : IsMaximal (tiles_of pool owner)

-- what the tiles of an owner show; space, if there is no such owner
abbrev pub picture_at : Pool → Option ℕ → Picture
picture_at pool None = empty_picture
picture_at pool (Some owner) = picture_in pool owner

-- what the planes of these owners show, the first on plane 0; every further plane is space
abbrev pub layout_in : Pool → List ℕ → Layout
layout_in pool owners plane = picture_at pool (slice_get owners plane)

-- there is one owner more, which has reserved this many tiles, and everything else is as it was: all reserves and tiles of all other owners, and the
-- capacity
pub record AddsOwner (old new : Pool) (owner tiles : ℕ) : Type 0 where
  pub unused : room_of old owner ≡ None
  pub room : room_of new owner ≡ Some tiles
  pub rooms : (other : ℕ) → other ≢ owner → room_of new other ≡ room_of old other
  pub others : (other : ℕ) → other ≢ owner → tiles_of new other ≡ tiles_of old other
  pub capacity : new.capacity ≡ old.capacity
