-- Zones of layouts that show uses: their tiles, copies of their planes, and what is compared in them.
use Rattle.std.specs.Prelude.{◌≡◌, ℕ, ◌+◌, min, nat_lt, true, if◌then◌else◌, List, ◌++◌, length, map, slice_get}
use Rattle.std.specs.Option.{unwrap_or}
use Rattle.mls_geom.specs.Layouts.{Layout}
use Rattle.mls_geom.specs.Pictures.{Picture}
use Rattle.mls_geom.specs.Rects.{Rect, common, holds}
use Rattle.mls_geom.specs.declared.piece.Piece.{Piece}
use Rattle.mls_checker.specs.Copies.{AreOfZone, PlaneTiles, no_plane, plane_picture}
use Rattle.mls_checker.specs.Tiles.{Tile, clipped_tile, space_round}

-- space round the zone, and what is found in it, each where a piece is, as far as that lies in it
abbrev pub found_tiles : {X : Type 0} → (X → Piece) → Rect → Rect → List X → List Tile
found_tiles piece_of extent zone found = space_round extent zone ++ map (λ one. clipped_tile zone (piece_of one)) found

-- where they are pieces
abbrev pub piece_tiles : Rect → Rect → List Piece → List Tile
piece_tiles extent zone pieces = found_tiles (λ piece. piece) extent zone pieces

-- the layout that these planes show
abbrev pub planes_layout : List PlaneTiles → Layout
planes_layout planes plane = plane_picture (unwrap_or (slice_get planes plane) no_plane)

-- as many planes as these, which show this layout, and space outside the zone
pub record AreCopies (zone : Rect) (count : ℕ) (layout : Layout) (planes : List PlaneTiles) : Type 0 where
  pub of_zone : AreOfZone zone planes
  pub as_many : length planes ≡ count
  pub shown : planes_layout planes ≡ layout

-- the pictures are the same in the area
abbrev pub SameIn : Rect → Picture → Picture → Type 0
SameIn area picture other = (x y : ℕ) → holds area x y ≡ true → picture x y ≡ other x y

-- the picture has the tile's kind in each square of the tile that lies in the area
abbrev pub HasTileIn : Rect → Picture → Tile → Type 0
HasTileIn area picture tile = (x y : ℕ) → holds (common tile.area area) x y ≡ true → picture x y ≡ tile.kind

-- ---- blocks of a zone, row after row
-- the block that begins at these lines, as far as it lies in the zone
abbrev pub block_from : Rect → ℕ → ℕ → Rect
block_from zone left bottom = record { left = left; bottom = bottom; right = min zone.right (left + 512); top = min zone.top (bottom + 512) }

-- the left line and the bottom line of the block after this one; the bottom line is the zone's top after the last one
abbrev pub lines_after : Rect → Rect → ℕ × ℕ
lines_after zone block = if nat_lt block.right zone.right then (block.right, block.bottom) else (zone.left, block.top)
