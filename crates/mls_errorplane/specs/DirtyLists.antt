-- The areas of a layout that await checking (after Taylor and Ousterhout 1984), as a list of rectangles. How many there may be, and in which pieces they
-- are checked, is this project's own.
use Rattle.std.specs.Prelude.{ℕ, ◌+◌, ◌-◌, ◌<◌, ◌≤◌, min, Bool, false, nat_lt, if◌then◌else◌, List, [], ◌∷◌, ◌++◌, length, filter, Option, Some, None, All, fold, sum_by}
use Rattle.mls_errorplane.specs.Common.{IsRectangleIn, Rect, common, grown, has_squares, holds, joined, size_of, world}

-- a list to which an area is added becomes one area where it has more than these
abbrev pub most_areas : ℕ
most_areas = 64

-- a piece is at most this wide and this high
abbrev pub piece_side : ℕ
piece_side = 256

-- the squares of the world that lie in the rectangle or at most this many squares away from it
abbrev pub zone_round : ℕ → Rect → Rect
zone_round halo rect = common (grown halo rect) world

-- the smallest rectangle round all of a list that begins so
abbrev pub round_all : Rect → List Rect → Rect
round_all first rest = fold joined first rest

-- the smallest rectangle round all areas, as a list of one
abbrev pub united : List Rect → List Rect
united [] = []
united (first ∷ rest) = round_all first rest ∷ []

-- the list, or the smallest rectangle round all where it has too many areas
abbrev pub collapsed : List Rect → List Rect
collapsed areas = if nat_lt most_areas (length areas) then united areas else areas

-- the list with an area added at its end
abbrev pub added : List Rect → Rect → List Rect
added areas area = collapsed (areas ++ area ∷ [])

-- the lower-left part of an area, at most as wide and as high as a piece may be
abbrev pub piece_of : Rect → Rect
piece_of area = record { left = area.left; bottom = area.bottom; right = min area.right (area.left + piece_side); top = min area.top (area.bottom + piece_side) }

-- the rest of the area to the right of its piece, as high as the piece, and the rest above both, as wide as the area; either may have no square
abbrev pub rest_beside : Rect → Rect
rest_beside area = record { left = (piece_of area).right; bottom = area.bottom; right = area.right; top = (piece_of area).top }

abbrev pub rest_above : Rect → Rect
rest_above area = record { left = area.left; bottom = (piece_of area).top; right = area.right; top = area.top }

-- what is left of an area without its piece
abbrev pub rests_of : Rect → List Rect
rests_of area = filter has_squares (rest_beside area ∷ rest_above area ∷ [])

-- the piece that is to be checked next, if there is one
abbrev pub first_piece_of : List Rect → Option Rect
first_piece_of [] = None
first_piece_of (first ∷ rest) = Some (piece_of first)

-- the list without that piece
abbrev pub dropped : List Rect → List Rect
dropped [] = []
dropped (first ∷ rest) = rests_of first ++ rest

-- the squares of the piece, if there is one
abbrev pub squares_in : Option Rect → ℕ → ℕ → Bool
squares_in None x y = false
squares_in (Some rect) x y = holds rect x y

-- how many squares the areas have, taken one by one
abbrev pub area_of : List Rect → ℕ
area_of areas = sum_by size_of areas

-- how high the first area is
abbrev pub first_height : List Rect → ℕ
first_height [] = 0
first_height (first ∷ rest) = first.top - first.bottom

-- what every list is like: the areas lie in the world, and there is at most one more than a list may have to which an area was added; where there is, the
-- first is no higher than a piece, so that without its piece it leaves no more than one area
pub record IsDirtyList (areas : List Rect) : Type 0 where
  pub legal : All (IsRectangleIn world) areas
  pub few : length areas ≤ most_areas + 1
  pub low : most_areas < length areas → first_height areas ≤ piece_side
