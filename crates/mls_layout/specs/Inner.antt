-- The words of private contracts. A caller needs none of them.
use Rattle.std.specs.Prelude.{◌≡◌, ◌≢◌, ℕ, ℤ, ◌+◌, ◌-◌, ◌<◌, ◌⊎◌, ◌==◌, ◌&&◌, Bool, false, true, not, if◌then◌else◌, Option, Some, None, List, drop}
use Rattle.std.specs.List.{All, Any}
use Rattle.mls_geom.specs.Pictures.{Picture}
use Rattle.mls_geom.specs.Rects.{IsRectangleIn, Rect, holds}
use Rattle.mls_geom.specs.World.{world}
use Rattle.mls_geom.specs.declared.piece.Piece.{Piece}
use Rattle.mls_stitch.specs.declared.laid_tile.LaidTile.{LaidTile}
use Rattle.mls_layout.specs.Grids.{Shows}
use Rattle.mls_tilepool.specs.Pools.{Pool}
use Rattle.mls_layout.specs.Uses.{cell_layouts, over, uses_layout}
use Rattle.mls_layout.specs.declared.uses.Uses.{Uses}
use Rattle.mls_layout.specs.Moves.{is_moved, moved_picture}

-- the square is one of the piece's, moved, and the piece isn't space
abbrev pub dumps : Piece → ℤ → ℤ → ℕ → ℕ → Bool
dumps piece dx dy x y = is_moved piece.rect dx dy x y && not (piece.kind == 0)

-- the square is one of the rectangle's, moved, where there is one
abbrev pub bounds_hold : Option Rect → ℤ → ℤ → ℕ → ℕ → Bool
bounds_hold None dx dy x y = false
bounds_hold (Some bounds) dx dy x y = is_moved bounds dx dy x y

-- the picture in the world, and space outside
abbrev pub in_world : Picture → Picture
in_world picture x y = if holds world x y then picture x y else 0

-- the tiles show what the picture has, and among them, moved, are all squares of the block that show something of the picture, moved
pub record ShowMoved (picture : Picture) (dx dy : ℤ) (block : Rect) (tiles : List LaidTile) : Type 0 where
  pub each : All (λ tile. Shows picture tile.piece) tiles
  pub whole : (x y : ℕ) → holds block x y ≡ true → moved_picture picture dx dy x y ≢ 0 → Any (λ tile. is_moved tile.piece.rect dx dy x y ≡ true) tiles

-- what the uses from this one on show, a later one over those before
abbrev pub later_uses : Pool → Uses → ℕ → ℕ → Picture
later_uses pool uses index plane = uses_layout (cell_layouts pool uses.library.now) (drop index uses.list.now) plane

-- the tiles show a picture, and what it shows, moved so and painted over what lies below, is what the use of this index does
pub record FindsUse (pool : Pool) (uses : Uses) (index number : ℕ) (rect : Rect) (dx dy : ℤ) (tiles : List LaidTile) : Type 0 where
  pub picture : Picture
  pub show : ShowMoved picture dx dy rect tiles
  pub painted :
      (below above : Picture) (x y : ℕ) → holds rect x y ≡ true → above x y ≡ over (moved_picture picture dx dy) below x y
      → over (later_uses pool uses (index + 1) number) above x y ≡ over (later_uses pool uses index number) below x y

-- two smaller rectangles that lie in one, and have each of its squares
pub record AreSmallerParts (e one other : Rect) : Type 0 where
  pub one_in : IsRectangleIn e one
  pub other_in : IsRectangleIn e other
  pub whole : (x y : ℕ) → holds e x y ≡ true → (holds one x y ≡ true) ⊎ (holds other x y ≡ true)
  pub one_less : (one.right - one.left) + (one.top - one.bottom) < (e.right - e.left) + (e.top - e.bottom)
  pub other_less : (other.right - other.left) + (other.top - other.bottom) < (e.right - e.left) + (e.top - e.bottom)
