-- What calls borrow to work in: a pool, and lists with room for all that any call needs. This project's own.
use Rattle.std.specs.Prelude.{ℕ, ◌≤◌, IfSome}
use Rattle.mls_paint.specs.Scratches.{Scratch}
use Rattle.mls_tilepool.specs.Pools.{Pool, room_of}

-- the most planes that a layout may have
abbrev pub most_planes : ℕ
most_planes = 4

-- the most tiles that a plane may reserve
abbrev pub tile_room : ℕ
tile_room = 16448

-- how many pieces can be painted at once
abbrev pub piece_room : ℕ
piece_room = 65536

-- how many pieces it takes at most to mark what a check of a first piece found
abbrev pub mark_room : ℕ
mark_room = 32769

-- the scratch, and a list of this capacity in which a call makes the pieces that it paints, have room for as much
pub record HasRooms (scratch : Scratch) (capacity : ℕ) : Type 0 where
  pub tiles : tile_room ≤ scratch.room
  pub pieces : piece_room ≤ scratch.pieces
  pub list : mark_room ≤ capacity

-- the plane reserves no more tiles than it may
abbrev pub FitsWorkspace : Pool → ℕ → Type 0
FitsWorkspace pool owner = IfSome (room_of pool owner) (λ room. room ≤ tile_room)
