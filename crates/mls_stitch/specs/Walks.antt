-- Going from tile to tile along stitches (Ousterhout 1984).
use Rattle.std.specs.Prelude.{◌≡◌, ℕ, IsTrue, List, Option, Some, ⊤}
use Rattle.std.specs.Option.{option_map}
use Rattle.mls_geom.specs.Rects.{Point, holds}
use Rattle.mls_geom.specs.declared.piece.Piece.{Piece}
use Rattle.mls_tilepool.specs.declared.tile.Tile.{Tile}
use Rattle.mls_stitch.specs.Tilings.{block_at}
use Rattle.mls_stitch.specs.declared.laid_tile.LaidTile.{LaidTile}
use Rattle.mls_stitch.specs.declared.walk.Step.{Step}
use Rattle.mls_stitch.specs.declared.walk.Step.TheVariants.{To, End}

-- the tile under the key, with its rectangle and kind
abbrev pub laid_at : List (ℕ × Tile) → ℕ → Option LaidTile
laid_at tiles key = option_map (λ piece. record { id = key; piece = piece }) (block_at tiles key)

-- the tile is laid as this block under its key
abbrev pub IsLaid : (ℕ → Option Piece) → LaidTile → Type 0
IsLaid blocks tile = blocks tile.id ≡ Some tile.piece

-- the tile is laid as this block under its key, and has the square
pub record IsLaidAt (blocks : ℕ → Option Piece) (at : Point) (tile : LaidTile) : Type 0 where
  pub laid : blocks tile.id ≡ Some tile.piece
  pub held : IsTrue (holds tile.piece.rect at.x at.y)

-- where the step is the last one, its tile has the square
abbrev pub EndsAt : (ℕ → Option Piece) → Point → Step → Type 0
EndsAt blocks at (To stitch) = ⊤
EndsAt blocks at (End tile) = IsLaidAt blocks at tile
