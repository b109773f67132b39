-- What painting leaves as it was. This project's own.
use Rattle.std.specs.Prelude.{◌≡◌, ℕ, false, List, Some}
use Rattle.mls_geom.specs.Locality.{is_touched}
use Rattle.mls_geom.specs.declared.piece.Piece.{Piece}
use Rattle.mls_tilepool.specs.Pools.{tile_in}
use Rattle.mls_tilepool.specs.declared.tile.Tile.{Tile}
use Rattle.mls_stitch.specs.Tilings.{block_of}

-- each tile that no piece touches, by a square, a side or a corner, keeps its key, its lower-left corner and its kind
abbrev pub KeepsUntouched : List (ℕ × Tile) → List (ℕ × Tile) → List Piece → Type 0
KeepsUntouched old new over =
    (key : ℕ) (tile : Tile) → tile_in old key ≡ Some tile → is_touched over (block_of old tile) ≡ false
    → (after : Tile) × (tile_in new key ≡ Some after) × (after.corner ≡ tile.corner) × (after.kind ≡ tile.kind)
