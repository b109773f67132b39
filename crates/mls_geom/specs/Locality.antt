-- Strips are local: painting changes only the strips that it touches. Those give way to the strips of the squares that they and the painted
-- pieces cover, where nothing lies anywhere else. This project's own, after the locality of corner stitching's operations (Ousterhout 1984).
use Rattle.std.specs.Prelude.{◌≡◌, ◌≢◌, ℕ, ◌<◌, Bool, false, ◌&&◌, not, ◌==◌, IsTrue, List}
use Rattle.std.specs.List.{All, Any, AllPairs, list_any, count_by, sum_by}
use Rattle.mls_geom.specs.Rects.{Rect, holds, grown, meets}
use Rattle.mls_geom.specs.Pictures.{Picture, overlaid, columns, rows}
use Rattle.mls_geom.specs.Strips.{IsStrip, comes_before}
use Rattle.mls_geom.specs.TileCounts.{is_corner}
use Rattle.mls_geom.specs.declared.piece.Piece.{Piece}

-- the list has the strips of the picture in the extent, each once, in any order
pub record AreUnorderedStrips (extent : Rect) (picture : Picture) (list : List Piece) : Type 0 where
  pub each : All (IsStrip extent picture) list
  pub whole : (x y : ℕ) → IsTrue (holds extent x y) → Any (λ piece. IsTrue (holds piece.rect x y)) list
  pub once : AllPairs (λ p q. p ≢ q) list

-- the rectangles share a square, a side or a corner
abbrev pub touches : Rect → Rect → Bool
touches a b = meets (grown 1 a) b

-- one of the painted pieces touches the strip
abbrev pub is_touched : List Piece → Piece → Bool
is_touched over strip = list_any (λ piece. touches piece.rect strip.rect) over

-- none of the painted pieces touches a strip of the list
abbrev pub AreUntouched : List Piece → List Piece → Type 0
AreUntouched over strips = All (λ strip. is_touched over strip ≡ false) strips

-- the kind of a square on which nothing lies; no piece has it, since a piece's kind is a byte
abbrev pub uncovered : ℕ
uncovered = 256

-- each piece has a kind that fits a byte
abbrev pub HaveKinds : List Piece → Type 0
HaveKinds pieces = All (λ piece. piece.kind < uncovered) pieces

-- what pieces show that are laid in turn on nothing
abbrev pub laid : List Piece → Picture
laid pieces = overlaid (λ x y. uncovered) pieces

-- the list has the strips of the covered squares, in order, each once
pub record AreCoveredStrips (extent : Rect) (picture : Picture) (list : List Piece) : Type 0 where
  pub each : All (λ strip. IsStrip extent picture strip × (strip.kind ≢ uncovered)) list
  pub whole : (x y : ℕ) → IsTrue (holds extent x y) → picture x y ≢ uncovered → Any (λ piece. IsTrue (holds piece.rect x y)) list
  pub ordered : AllPairs (λ p q. IsTrue (comes_before p q)) list

-- the square is the lower-left square of its own strip, and covered
abbrev pub is_covered_corner : Rect → Picture → ℕ → ℕ → Bool
is_covered_corner extent picture x y = is_corner extent picture x y && not (picture x y == uncovered)

-- the number of strips of the covered squares, counted over the squares
unfoldable pub covered_count : Rect → Picture → ℕ
covered_count extent picture = sum_by (λ y. count_by (λ x. is_covered_corner extent picture x y) (columns extent)) (rows extent)
