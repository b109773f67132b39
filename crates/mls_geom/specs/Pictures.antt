-- What is painted where: for each unit square a kind (Ousterhout 1984: a plane is covered completely).
use Rattle.std.specs.Prelude.{ℕ, ◌==◌, ◌-◌, Bool, if◌then◌else◌, List, [], ◌∷◌}
use Rattle.std.specs.List.{list_any, range_with_len}
use Rattle.mls_geom.specs.Rects.{Rect, holds}
use Rattle.mls_kinds.specs.KindSets.{set_of}
use Rattle.mls_geom.specs.declared.piece.Piece.{Piece}

-- the kind of the square at each column and row; 0 is space
abbrev pub Picture : Type 0
Picture = ℕ → ℕ → ℕ

-- the picture with one rectangle painted over it
abbrev pub painted : Picture → Piece → Picture
painted below piece x y = if holds piece.rect x y then piece.kind else below x y

-- the picture with pieces painted over it in turn, so that a later piece wins
abbrev pub overlaid : Picture → List Piece → Picture
overlaid below [] = below
overlaid below (piece ∷ pieces) = overlaid (painted below piece) pieces

-- space everywhere
abbrev pub empty_picture : Picture
empty_picture x y = 0

-- what pieces show on an empty plane
abbrev pub picture_of : List Piece → Picture
picture_of pieces = overlaid empty_picture pieces

-- the columns and the rows of a rectangle
abbrev pub columns : Rect → List ℕ
columns e = range_with_len e.left (e.right - e.left)

abbrev pub rows : Rect → List ℕ
rows e = range_with_len e.bottom (e.top - e.bottom)

-- some square of the rectangle has this kind
abbrev pub shows : Picture → Rect → ℕ → Bool
shows picture e kind = list_any (λ y. list_any (λ x. picture x y == kind) (columns e)) (rows e)

-- the set of the kinds below 64 that some square of the rectangle has
unfoldable pub kinds_in : Picture → Rect → ℕ
kinds_in picture e = set_of (shows picture e)
