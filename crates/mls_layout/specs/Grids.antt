-- The kinds of the squares of a block of the world, a number each, in rows of 512.
use Rattle.std.specs.Prelude.{◌≡◌, ℕ, ◌+◌, ◌-◌, ◌*◌, ◌<◌, ◌≤◌, Bool, true, ◌||◌, if◌then◌else◌, List, ◌++◌, length, take, drop, slice_index}
use Rattle.std.specs.List.{All, Any, HoldsAt}
use Rattle.mls_geom.specs.Rects.{Rect, IsRectangleIn, holds}
use Rattle.mls_geom.specs.World.{world}
use Rattle.mls_geom.specs.Pictures.{Picture}
use Rattle.mls_geom.specs.declared.piece.Piece.{Piece}

-- a rectangle of the world, at most 512 squares wide and at most 512 high
pub record IsBlock (block : Rect) : Type 0 where
  pub legal : IsRectangleIn world block
  pub narrow : block.right ≤ block.left + 512
  pub low : block.top ≤ block.bottom + 512

-- how many squares a grid has room for
abbrev pub grid_size : ℕ
grid_size = 262144

-- where a square of the block stands in the list
abbrev pub place_in_block : Rect → ℕ → ℕ → ℕ
place_in_block block x y = (y - block.bottom) * 512 + (x - block.left)

-- the kind of a square of the block
abbrev pub grid_kind : List ℕ → Rect → ℕ → ℕ → ℕ
grid_kind squares block x y = slice_index squares (place_in_block block x y)

-- the kinds of the squares of the block, and space round it
unfoldable pub grid_picture : List ℕ → Rect → Picture
grid_picture squares block x y = if holds block x y then grid_kind squares block x y else 0

-- the picture has the piece's kind in each square of the piece
abbrev pub Shows : Picture → Piece → Type 0
Shows picture piece = (x y : ℕ) → holds piece.rect x y ≡ true → picture x y ≡ piece.kind

-- each piece lies in the extent and shows what the picture has, and each square of the extent lies in a piece
pub record CoverBlock (extent : Rect) (picture : Picture) (pieces : List Piece) : Type 0 where
  pub bounded : All (λ piece. IsRectangleIn extent piece.rect) pieces
  pub shown : All (Shows picture) pieces
  pub whole : (x y : ℕ) → holds extent x y ≡ true → Any (λ piece. holds piece.rect x y ≡ true) pieces

-- the list gained pieces that cover the extent
abbrev pub AppendsCover : Rect → Picture → List Piece → List Piece → Type 0
AppendsCover extent picture old new = (more : List Piece) × (new ≡ old ++ more) × CoverBlock extent picture more

-- ---- pieces that are found row by row
-- each piece lies in the extent and shows what the picture has, and each square of the set lies in a piece
pub record CoverSquares (extent : Rect) (picture : Picture) (squares : ℕ → ℕ → Bool) (pieces : List Piece) : Type 0 where
  pub bounded : All (λ piece. IsRectangleIn extent piece.rect) pieces
  pub shown : All (Shows picture) pieces
  pub whole : (x y : ℕ) → squares x y ≡ true → Any (λ piece. holds piece.rect x y ≡ true) pieces

-- the pieces from the first on cover the squares of an area too, and those before it are as they were
pub record GainArea (extent : Rect) (picture : Picture) (first : ℕ) (area : Rect) (old new : List Piece) : Type 0 where
  pub before : take first new ≡ take first old
  pub covers : (squares : ℕ → ℕ → Bool) → CoverSquares extent picture squares (drop first old) → CoverSquares extent picture (λ x y. squares x y || holds area x y) (drop first new)

-- one row of a rectangle
abbrev pub row_of : ℕ → Rect → Rect
row_of row e = record { left = e.left; bottom = row; right = e.right; top = row + 1 }

-- the run lies on top of the piece, is as wide, and of its kind
pub record LiesOn (run piece : Piece) : Type 0 where
  pub left : piece.rect.left ≡ run.rect.left
  pub right : piece.rect.right ≡ run.rect.right
  pub line : piece.rect.top ≡ run.rect.bottom
  pub kind : piece.kind ≡ run.kind

-- the piece with the squares of the run on top of it
abbrev pub raised : Piece → Piece → Piece
raised run piece = record { rect = record { left = piece.rect.left; bottom = piece.rect.bottom; right = piece.rect.right; top = run.rect.top }; kind = piece.kind }

-- the pieces have one of this index, not before the first, on which the run lies, and with which it is the taller piece
pub record Raises (pieces : List Piece) (first index : ℕ) (run taller : Piece) : Type 0 where
  pub after : first ≤ index
  pub within : index < length pieces
  pub lies : HoldsAt (λ piece. LiesOn run piece) pieces index
  pub joined : HoldsAt (λ piece. taller ≡ raised run piece) pieces index

-- squares of one row of the block from a column on, of one kind, which the picture has there
pub record IsRunFrom (block : Rect) (picture : Picture) (left row : ℕ) (run : Piece) : Type 0 where
  pub from : run.rect.left ≡ left
  pub below : run.rect.bottom ≡ row
  pub above : run.rect.top ≡ row + 1
  pub legal : IsRectangleIn block run.rect
  pub shown : Shows picture run
