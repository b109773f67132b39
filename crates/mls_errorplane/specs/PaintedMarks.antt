-- What pieces paint on an error plane, and what its tiles show already. No public contract names these.
use Rattle.std.specs.Prelude.{◌≡◌, ◌≢◌, ℕ, ◌==◌, true, false, if◌then◌else◌, List}
use Rattle.mls_errorplane.specs.Common.{LaidTile, Picture, Piece, Rect, SquareSet, common, holds, overlaid, size_of}
use Rattle.mls_errorplane.specs.MarkPlanes.{remarked}

-- painted over any picture, the pieces mark the squares of the rectangle as the set says, and change no others
abbrev pub Paints : List Piece → Rect → SquareSet → Type 0
Paints pieces rect set = (below : Picture) (x y : ℕ) → overlaid below pieces x y ≡ remarked below rect set x y

-- of the tile's squares in the rectangle those of the set have kind 1, and the others kind 0
abbrev pub ShowsSet : Rect → SquareSet → LaidTile → Type 0
ShowsSet rect set tile =
    (x y : ℕ) → holds rect x y ≡ true → holds tile.piece.rect x y ≡ true → tile.piece.kind ≡ (if set x y then 1 else 0)

-- the tile is space, or shows the set
abbrev pub IsSettled : Rect → SquareSet → LaidTile → Type 0
IsSettled rect set tile = tile.piece.kind ≢ 0 → ShowsSet rect set tile

-- how many marked squares of the rectangle a tile has
abbrev pub marked_part : Rect → LaidTile → ℕ
marked_part rect tile = if tile.piece.kind == 0 then 0 else size_of (common tile.piece.rect rect)

-- how many squares of the rectangle a tile of space has, and none any other
abbrev pub space_size : Rect → LaidTile → ℕ
space_size rect tile = if tile.piece.kind == 0 then size_of (common tile.piece.rect rect) else 0

-- of the tile's squares in the rectangle beside a part those of the set have kind 1, and the others kind 0
abbrev pub ShowsBeside : Rect → Rect → SquareSet → LaidTile → Type 0
ShowsBeside rect part set tile =
    (x y : ℕ) → holds rect x y ≡ true → holds part x y ≡ false → holds tile.piece.rect x y ≡ true → tile.piece.kind ≡ (if set x y then 1 else 0)
