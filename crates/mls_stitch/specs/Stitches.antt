-- The four stitches of a tile (Ousterhout 1984): each leads to the tile that holds a square beside one of the tile's two corners, the lower-left or the
-- upper-right one.
use Rattle.std.specs.Prelude.{◌≡◌, ℕ, ◌-◌, Option, Some, None, IsTrue, IsSomeAnd, false}
use Rattle.mls_geom.specs.Rects.{Rect, Point, holds}
use Rattle.mls_geom.specs.World.{world}
use Rattle.mls_geom.specs.declared.piece.Piece.{Piece}
use Rattle.mls_tilepool.specs.declared.tile.Tile.{Tile}
use Rattle.mls_stitch.specs.declared.stitch.Stitch.{Stitch}
use Rattle.mls_stitch.specs.declared.stitch.Stitch.TheVariants.{Lb, Bl, Tr, Rt}

-- the tile's stitch
abbrev pub stitch_of : Stitch → Tile → Option ℕ
stitch_of Lb tile = tile.lb
stitch_of Bl tile = tile.bl
stitch_of Tr tile = tile.tr
stitch_of Rt tile = tile.rt

-- the tile with this stitch
abbrev pub with_stitch : Stitch → Option ℕ → Tile → Tile
with_stitch Lb to tile = record tile { lb = to }
with_stitch Bl to tile = record tile { bl = to }
with_stitch Tr to tile = record tile { tr = to }
with_stitch Rt to tile = record tile { rt = to }

-- the square to which the stitch of a tile over this rectangle leads; it may lie outside the world
abbrev pub beyond : Stitch → Rect → Point
beyond Lb rect = record { x = rect.left; y = rect.bottom - 1 }
beyond Bl rect = record { x = rect.left - 1; y = rect.bottom }
beyond Tr rect = record { x = rect.right; y = rect.top - 1 }
beyond Rt rect = record { x = rect.right - 1; y = rect.top }

-- the block under the key has the square
abbrev pub HoldsAt : (ℕ → Option Piece) → ℕ → Point → Type 0
HoldsAt blocks key at = IsSomeAnd (blocks key) (λ block. IsTrue (holds block.rect at.x at.y))

-- the stitch names the key whose block has the square; it is none where the square lies outside the world
abbrev pub LeadsTo : (ℕ → Option Piece) → Option ℕ → Point → Type 0
LeadsTo blocks None at = holds world at.x at.y ≡ false
LeadsTo blocks (Some key) at = HoldsAt blocks key at
