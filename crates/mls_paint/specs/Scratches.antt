-- What a caller sees of a scratch.
use Rattle.std.specs.Prelude.{◌≡◌, ℕ, ◌≤◌, List, IfSome, get_or}
use Rattle.mls_stitch.specs.declared.laid_tile.LaidTile.{LaidTile}
use Rattle.mls_paint.specs.Plans.{Plan, no_plan}
use Rattle.mls_tilepool.specs.Pools.{Pool, room_of}

-- the tiles that the last search found, how many tiles a plane may have, how many pieces may be painted at once, and the plans that are kept
pub record Scratch : Type 0 where
  pub tiles : List LaidTile
  pub room : ℕ
  pub pieces : ℕ
  pub plans : List Plan

-- the plan that is kept at a place
abbrev pub plan_of : Scratch → ℕ → Plan
plan_of scratch place = get_or scratch.plans place no_plan

-- it still has the same room
pub record KeepsRoom (old new : Scratch) : Type 0 where
  pub room : new.room ≡ old.room
  pub pieces : new.pieces ≡ old.pieces

-- it has room for as many tiles as the owner has reserved
abbrev pub HasRoomFor : Pool → ℕ → Scratch → Type 0
HasRoomFor pool owner scratch = IfSome (room_of pool owner) (λ room. room ≤ scratch.room)
