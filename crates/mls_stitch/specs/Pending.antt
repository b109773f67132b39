-- Tiles that lie in place and wait for their stitches.
use Rattle.std.specs.Prelude.{◌≡◌, ◌⊎◌, ℕ, true, IsTrue, List, ◌++◌, map, Option, Some}
use Rattle.std.specs.List.{All, Any, Contains}
use Rattle.mls_geom.specs.Rects.{Point, holds}
use Rattle.mls_geom.specs.declared.piece.Piece.{Piece}
use Rattle.mls_tilepool.specs.Pools.{tile_in}
use Rattle.mls_tilepool.specs.declared.tile.Tile.{Tile}
use Rattle.mls_stitch.specs.Lookups.{back_of, leads_to}
use Rattle.mls_stitch.specs.Stitches.{LeadsTo, beyond, stitch_of}
use Rattle.mls_stitch.specs.Tilings.{AreBlocks, ArePlaced}
use Rattle.mls_stitch.specs.Walks.{IsLaid}
use Rattle.mls_stitch.specs.declared.laid_tile.LaidTile.{LaidTile}
use Rattle.mls_stitch.specs.declared.stitch.Stitch.{Stitch}

-- the keys of the listed tiles
abbrev pub keys_of : List LaidTile → List ℕ
keys_of entries = map (λ entry. entry.id) entries

-- one of the tiles has the square
abbrev pub IsListedAt : List LaidTile → Point → Type 0
IsListedAt entries at = Any (λ entry. IsTrue (holds entry.piece.rect at.x at.y)) entries

-- a tile is listed, and so is the one that has the square, and at least one of the two is fresh
abbrev pub AreListed : List LaidTile → List LaidTile → ℕ → Point → Type 0
AreListed around fresh key at =
    (Contains (keys_of fresh) key × IsListedAt (around ++ fresh) at) ⊎ (Contains (keys_of around) key × IsListedAt fresh at)

-- the stitch leads where it is to lead; or its tile is listed, and so is the tile that has its square, and at least one of the two is fresh
abbrev pub IsRightOrListed : (ℕ → Option Piece) → List LaidTile → List LaidTile → ℕ → Tile → Piece → Stitch → Type 0
IsRightOrListed blocks around fresh key tile block stitch =
    LeadsTo blocks (stitch_of stitch tile) (beyond stitch block.rect) ⊎ AreListed around fresh key (beyond stitch block.rect)

-- the tiles lie in place, as these blocks
pub record AreInPlace (tiles : List (ℕ × Tile)) (blocks : ℕ → Option Piece) : Type 0 where
  pub tiling : AreBlocks blocks
  pub placed : (key : ℕ) → ArePlaced (tile_in tiles key) (blocks key)

-- so do fresh tiles and those around them, and each stitch is right or can be found among these
pub record AwaitStitches (tiles : List (ℕ × Tile)) (blocks : ℕ → Option Piece) (around fresh : List LaidTile) : Type 0 where
  pub place : AreInPlace tiles blocks
  pub laid_around : All (IsLaid blocks) around
  pub laid_fresh : All (IsLaid blocks) fresh
  pub pending : (key : ℕ) (tile : Tile) (block : Piece) (stitch : Stitch) → tile_in tiles key ≡ Some tile → blocks key ≡ Some block
      → IsRightOrListed blocks around fresh key tile block stitch

-- the stitch of the tile under the key leads where it is to lead
abbrev pub IsStitchedAt : List (ℕ × Tile) → (ℕ → Option Piece) → Stitch → ℕ → Type 0
IsStitchedAt tiles blocks stitch key =
    (tile : Tile) (block : Piece) → tile_in tiles key ≡ Some tile → blocks key ≡ Some block → LeadsTo blocks (stitch_of stitch tile) (beyond stitch block.rect)

-- if the stitch of the one tile is to lead to the other, it does
abbrev pub IsLed : List (ℕ × Tile) → (ℕ → Option Piece) → Stitch → LaidTile → LaidTile → Type 0
IsLed tiles blocks stitch from to = leads_to stitch from to ≡ true → IsStitchedAt tiles blocks stitch from.id

-- all tiles lie in place still, and each stitch that leads where it is to lead still does
pub record KeepStitches (old new : List (ℕ × Tile)) (blocks : ℕ → Option Piece) : Type 0 where
  pub place : AreInPlace new blocks
  pub kept : (stitch : Stitch) (key : ℕ) → IsStitchedAt old blocks stitch key → IsStitchedAt new blocks stitch key

-- besides, a tile and fresh ones lead to each other over one side of the tile
pub record IsSewn (old new : List (ℕ × Tile)) (blocks : ℕ → Option Piece) (stitch : Stitch) (tile : LaidTile) (fresh : List LaidTile) : Type 0 where
  pub keeps : KeepStitches old new blocks
  pub onward : All (λ other. IsLed new blocks stitch tile other) fresh
  pub back : All (λ other. IsLed new blocks (back_of stitch) other tile) fresh

-- each of the tiles of the one list leads to each of the other that its stitch is to lead to
abbrev pub AreLed : List (ℕ × Tile) → (ℕ → Option Piece) → Stitch → List LaidTile → List LaidTile → Type 0
AreLed tiles blocks stitch from to = All (λ tile. All (λ other. IsLed tiles blocks stitch tile other) to) from

-- so do tiles and fresh ones over one side of each of the tiles
pub record AreSewn (old new : List (ℕ × Tile)) (blocks : ℕ → Option Piece) (stitch : Stitch) (tiles fresh : List LaidTile) : Type 0 where
  pub keeps : KeepStitches old new blocks
  pub onward : AreLed new blocks stitch tiles fresh
  pub back : AreLed new blocks (back_of stitch) fresh tiles

-- so do tiles around and fresh ones, over one side of each tile around and over the one across, and the fresh ones over these sides
pub record AreSewnAcross (old new : List (ℕ × Tile)) (blocks : ℕ → Option Piece) (stitch : Stitch) (around fresh : List LaidTile) : Type 0 where
  pub onward : AreSewn old new blocks stitch around fresh
  pub among : AreSewn old new blocks stitch fresh fresh
  pub back : AreSewn old new blocks (back_of stitch) around fresh
