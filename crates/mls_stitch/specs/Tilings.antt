-- Planes of stitched tiles (Ousterhout 1984). A tile has a lower-left corner and four stitches; its right side and its top are the left side and
-- the bottom of the tiles to which two of them lead.
use Rattle.std.specs.Prelude.{◌≡◌, ℕ, List, map, Option, Some, None, IsTrue, IfSome}
use Rattle.std.specs.Option.{option_map, option_map_or}
use Rattle.mls_geom.specs.Rects.{Point, IsRectangleIn, holds}
use Rattle.mls_geom.specs.World.{world}
use Rattle.mls_geom.specs.Pictures.{Picture, picture_of}
use Rattle.mls_geom.specs.Locality.{AreUnorderedStrips}
use Rattle.mls_geom.specs.declared.piece.Piece.{Piece}
pub use Rattle.mls_tilepool.specs.Pools.{ChangesOnly}
use Rattle.mls_tilepool.specs.Pools.{Pool, IsOwner, tile_in, tiles_of}
use Rattle.mls_tilepool.specs.declared.tile.Tile.{Tile}
use Rattle.mls_stitch.specs.Stitches.{HoldsAt, LeadsTo, beyond, stitch_of}
use Rattle.mls_stitch.specs.declared.stitch.Stitch.{Stitch}

-- the left side of the tile that a stitch names, and the world's right side where it names none
abbrev pub left_beyond : List (ℕ × Tile) → Option ℕ → ℕ
left_beyond tiles None = world.right
left_beyond tiles (Some key) = option_map_or (λ tile. tile.corner.x) (tile_in tiles key) world.right

-- the bottom of the tile that a stitch names, and the world's top where it names none
abbrev pub bottom_beyond : List (ℕ × Tile) → Option ℕ → ℕ
bottom_beyond tiles None = world.top
bottom_beyond tiles (Some key) = option_map_or (λ tile. tile.corner.y) (tile_in tiles key) world.top

-- the rectangle and the kind of a tile among these
abbrev pub block_of : List (ℕ × Tile) → Tile → Piece
block_of tiles tile = record {
  rect = record { left = tile.corner.x; bottom = tile.corner.y; right = left_beyond tiles tile.tr; top = bottom_beyond tiles tile.rt };
  kind = tile.kind;
}

-- the rectangle and the kind of the tile under a key
abbrev pub block_at : List (ℕ × Tile) → ℕ → Option Piece
block_at tiles key = option_map (block_of tiles) (tile_in tiles key)

-- the tile has the block's lower-left corner and kind
pub record IsPlaced (tile : Tile) (block : Piece) : Type 0 where
  pub left : tile.corner.x ≡ block.rect.left
  pub bottom : tile.corner.y ≡ block.rect.bottom
  pub kind : tile.kind ≡ block.kind

-- under the key there are a tile and a block that is the tile's, or neither
abbrev pub ArePlaced : Option Tile → Option Piece → Type 0
ArePlaced None block = block ≡ None
ArePlaced (Some tile) block = (piece : Piece) × (block ≡ Some piece) × IsPlaced tile piece

-- blocks, each under its key, have each square of the world just once
pub record AreBlocks (blocks : ℕ → Option Piece) : Type 0 where
  pub legal : (key : ℕ) → IfSome (blocks key) (λ block. IsRectangleIn world block.rect)
  pub whole : (at : Point) → IsTrue (holds world at.x at.y) → (key : ℕ) × HoldsAt blocks key at
  pub apart : (a b : ℕ) (at : Point) → HoldsAt blocks a at → HoldsAt blocks b at → a ≡ b

-- the tiles are laid as these blocks, and each stitch leads to the tile that holds its square
pub record AreTiledAs (tiles : List (ℕ × Tile)) (blocks : ℕ → Option Piece) : Type 0 where
  pub tiling : AreBlocks blocks
  pub placed : (key : ℕ) → ArePlaced (tile_in tiles key) (blocks key)
  pub stitched : (key : ℕ) (tile : Tile) (block : Piece) (stitch : Stitch) → tile_in tiles key ≡ Some tile → blocks key ≡ Some block
      → LeadsTo blocks (stitch_of stitch tile) (beyond stitch block.rect)

-- the tiles cover the world, each square once, and each stitch leads to the tile that holds its square
abbrev pub IsPlane : List (ℕ × Tile) → Type 0
IsPlane tiles = AreTiledAs tiles (block_at tiles)

-- the rectangles and kinds of the tiles
abbrev pub blocks_of : List (ℕ × Tile) → List Piece
blocks_of tiles = map (λ entry. block_of tiles entry.1) tiles

-- what the tiles show
abbrev pub shown : List (ℕ × Tile) → Picture
shown tiles = picture_of (blocks_of tiles)

-- each tile is a maximal horizontal strip of what the tiles show
abbrev pub IsMaximal : List (ℕ × Tile) → Type 0
IsMaximal tiles = AreUnorderedStrips world (shown tiles) (blocks_of tiles)

-- the owner's tiles in the pool are a plane
pub record HasPlane (pool : Pool) (owner : ℕ) : Type 0 where
  pub live : IsOwner pool owner
  pub plane : IsPlane (tiles_of pool owner)
