-- Area search (Ousterhout 1984), and the scratch in which it leaves what it finds.
use Rattle.std.specs.Prelude.{◌≡◌, ℕ, max, Bool, ◌&&◌, ◌||◌, ◌==◌, nat_lt, IfSome, IsTrue, List, map, Option, Some, ◌≢◌, true}
use Rattle.std.specs.List.{All, Any, AllPairs, Contains}
use Rattle.mls_geom.specs.Locality.{is_touched}
use Rattle.mls_geom.specs.Rects.{Rect, holds, meets}
use Rattle.mls_geom.specs.declared.piece.Piece.{Piece}
use Rattle.mls_stitch.specs.Walks.{IsLaid}
use Rattle.mls_stitch.specs.declared.laid_tile.LaidTile.{LaidTile}

-- what a caller sees of a scratch: the tiles that the last search found, and how many tiles there is room for
pub record Scratch : Type 0 where
  pub tiles : List LaidTile
  pub room : ℕ

-- by bottom, clipped to the area, and then left
abbrev pub comes_first : Rect → LaidTile → LaidTile → Bool
comes_first area p q =
    nat_lt (max p.piece.rect.bottom area.bottom) (max q.piece.rect.bottom area.bottom)
    || (max p.piece.rect.bottom area.bottom == max q.piece.rect.bottom area.bottom && nat_lt p.piece.rect.left q.piece.rect.left)

-- the tile is laid as this block under its key, and has a square of the area
pub record IsFound (blocks : ℕ → Option Piece) (area : Rect) (tile : LaidTile) : Type 0 where
  pub laid : blocks tile.id ≡ Some tile.piece
  pub met : IsTrue (meets tile.piece.rect area)

-- the list has the tiles that have a square of the area, in any order
pub record MeetArea (blocks : ℕ → Option Piece) (area : Rect) (list : List LaidTile) : Type 0 where
  pub each : All (IsFound blocks area) list
  pub whole : (x y : ℕ) → IsTrue (holds area x y) → Any (λ tile. IsTrue (holds tile.piece.rect x y)) list

-- where an area was searched, the list has the tiles that have a square of it, each once
abbrev pub AreSearched : (ℕ → Option Piece) → Option Rect → List LaidTile → Type 0
AreSearched blocks searched list = IfSome searched (λ area. MeetArea blocks area list × AllPairs (λ p q. p.id ≢ q.id) list)

-- the list has the tiles that have a square of the area, in order, each once
pub record AreInArea (blocks : ℕ → Option Piece) (area : Rect) (list : List LaidTile) : Type 0 where
  pub each : All (IsFound blocks area) list
  pub whole : (x y : ℕ) → IsTrue (holds area x y) → Any (λ tile. IsTrue (holds tile.piece.rect x y)) list
  pub ordered : AllPairs (λ p q. IsTrue (comes_first area p q)) list

-- the list has tiles that are laid as these blocks, each once, and among them each that one of the pieces touches, by a square, a side or a corner
pub record ListTouched (blocks : ℕ → Option Piece) (over : List Piece) (list : List LaidTile) : Type 0 where
  pub each : All (IsLaid blocks) list
  pub whole : (key : ℕ) (block : Piece) → blocks key ≡ Some block → is_touched over block ≡ true → Contains (map (λ tile. tile.id) list) key
  pub once : AllPairs (λ p q. p.id ≢ q.id) list
