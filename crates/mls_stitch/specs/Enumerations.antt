-- How area search goes over an area (after Ousterhout 1984, area enumeration): the tiles on the area's left side from the bottom up, and then, tile by
-- tile of those listed, the right neighbours of which it is the parent. Each tile has one parent, so it is listed once.
use Rattle.std.specs.Prelude.{◌≡◌, ◌≢◌, ◌⊎◌, ℕ, ◌-◌, ◌<◌, ◌≤◌, max, IsTrue, List, length, Option, slice_index_or}
use Rattle.std.specs.List.{All, Any, AllPairs, Contains}
use Rattle.mls_geom.specs.Rects.{Rect, holds}
use Rattle.mls_geom.specs.declared.piece.Piece.{Piece}
use Rattle.mls_stitch.specs.Areas.{IsFound}
use Rattle.mls_stitch.specs.declared.laid_tile.LaidTile.{LaidTile}

-- the lowest row of the tile that is not below the area
abbrev pub first_row : Rect → LaidTile → ℕ
first_row area tile = max tile.piece.rect.bottom area.bottom

-- the parent has the square to the left of the tile in that row
abbrev pub IsParent : Rect → LaidTile → LaidTile → Type 0
IsParent area parent tile = IsTrue (holds parent.piece.rect (tile.piece.rect.left - 1) (first_row area tile))

-- the list has the tile's parent before the index, or at the index, and then the tile's first row is at the line or above it
pub record IsReached (area : Rect) (list : List LaidTile) (index line : ℕ) (tile : LaidTile) : Type 0 where
  pub place : ℕ
  pub parent : LaidTile
  pub within : place < length list
  pub there : slice_index_or list place parent ≡ parent
  pub is_parent : IsParent area parent tile
  pub passed : (place < index) ⊎ ((place ≡ index) × (line ≤ first_row area tile))

-- the list has each tile on the area's left side, and to the right of that each whose parent was passed: all parents before the index, and the one at
-- the index down to the line
pub record IsListedTo (blocks : ℕ → Option Piece) (area : Rect) (list : List LaidTile) (index line : ℕ) : Type 0 where
  pub each : All (IsFound blocks area) list
  pub once : AllPairs (λ p q. p.id ≢ q.id) list
  pub on_side : (y : ℕ) → area.bottom ≤ y → y < area.top → Any (λ tile. IsTrue (holds tile.piece.rect area.left y)) list
  pub listed : All (λ tile. (tile.piece.rect.left ≤ area.left) ⊎ IsReached area list index line tile) list
  pub reached : (tile : LaidTile) → IsFound blocks area tile → area.left < tile.piece.rect.left → IsReached area list index line tile → Contains list tile

-- the list has the tiles on the area's left side up to the line
pub record IsSideListedTo (blocks : ℕ → Option Piece) (area : Rect) (list : List LaidTile) (line : ℕ) : Type 0 where
  pub each : All (IsFound blocks area) list
  pub once : AllPairs (λ p q. p.id ≢ q.id) list
  pub on_side : (y : ℕ) → area.bottom ≤ y → y < line → Any (λ tile. IsTrue (holds tile.piece.rect area.left y)) list
  pub at_side : All (λ tile. tile.piece.rect.left ≤ area.left) list
  pub below : All (λ tile. tile.piece.rect.top ≤ line) list
