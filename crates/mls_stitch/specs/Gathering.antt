-- Tiles gathered by one search or by many; a tile may be listed more than once. No public contract names these.
use Rattle.std.specs.Prelude.{◌≡◌, ℕ, true, IsTrue, IsSomeAnd, IfSome, List, Option, Some}
use Rattle.std.specs.List.{All, Any, Contains}
use Rattle.mls_geom.specs.Locality.{is_touched}
use Rattle.mls_geom.specs.Rects.{Rect, Point, IsWithin, holds, meets}
use Rattle.mls_geom.specs.declared.piece.Piece.{Piece}
use Rattle.mls_stitch.specs.Areas.{IsFound}
use Rattle.mls_stitch.specs.Pending.{keys_of}
use Rattle.mls_stitch.specs.Walks.{IsLaid}
use Rattle.mls_stitch.specs.declared.laid_tile.LaidTile.{LaidTile}

-- the bounds have each piece within them
abbrev pub EnclosePieces : Rect → List Piece → Type 0
EnclosePieces bounds pieces = All (λ piece. IsWithin bounds piece.rect) pieces

-- the bounds have the block of each key within them
abbrev pub EncloseBlocks : (ℕ → Option Piece) → Rect → List ℕ → Type 0
EncloseBlocks blocks bounds keys = All (λ key. IfSome (blocks key) (λ block. IsWithin bounds block.rect)) keys

-- the list has the tiles that have a square of the area
pub record AreMet (blocks : ℕ → Option Piece) (area : Rect) (list : List LaidTile) : Type 0 where
  pub each : All (IsFound blocks area) list
  pub whole : (key : ℕ) (block : Piece) → blocks key ≡ Some block → meets block.rect area ≡ true → Contains (keys_of list) key

-- the list has laid tiles, and among them those that one of the passed pieces touches
pub record HasTouched (blocks : ℕ → Option Piece) (passed : List Piece) (list : List LaidTile) : Type 0 where
  pub each : All (IsLaid blocks) list
  pub whole : (key : ℕ) (block : Piece) → blocks key ≡ Some block → is_touched passed block ≡ true → Contains (keys_of list) key

-- one of the parts that are there has the square
abbrev pub IsInPart : List (Option Rect) → Point → Type 0
IsInPart parts at = Any (λ part. IsSomeAnd part (λ rect. IsTrue (holds rect at.x at.y))) parts
