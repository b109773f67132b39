-- What a rectangle has of the marks, and of the areas that await checking. This project's own.
use Rattle.std.specs.Prelude.{◌&&◌, ◌==◌, if◌then◌else◌, Option, None, List, filter_map, option_map}
use Rattle.mls_errorplane.specs.Common.{LaidTile, Piece, Rect, SquareSet, clipped, holds}

-- the squares of the set that lie in the rectangle
abbrev pub squares_in : Rect → SquareSet → SquareSet
squares_in rect set x y = holds rect x y && set x y

-- each area cut to the rectangle, in their order; an area that has no square there is left out
abbrev pub areas_in : Rect → List Rect → List Rect
areas_in rect areas = filter_map (λ area. clipped area rect) areas

-- ---- no public contract names this
-- what marks the squares of a tile that lie in the rectangle, if they are marked and there are any
abbrev pub marked_part : Rect → LaidTile → Option Piece
marked_part rect tile = if tile.piece.kind == 0 then None else option_map (λ part. record { rect = part; kind = 1 }) (clipped tile.piece.rect rect)
