-- Marked squares of a rectangle on a map of one bit a square.
use Rattle.std.specs.Prelude.{◌≡◌, ℕ, ◌+◌, ◌-◌, ◌*◌, ◌<◌, ◌≤◌, Bool, not, ◌&&◌, true, false, List, length}
use Rattle.mls_geom.specs.Rects.{Rect, IsRectangleIn, holds}
use Rattle.mls_geom.specs.World.{world}
use Rattle.mls_checker.specs.Maps.{Frame, IsRound, has_place, place_of}
use Rattle.mls_checker.specs.Grids.{is_between}
use Rattle.mls_checker.specs.Marking.{AreInside, SquareSet, differs, runs_of_rows, square_count, squares_of}

-- a rectangle, the squares of a map round it, and the map's words, row after row; no words where no square is marked
pub record MarkMap : Type 0 where
  pub rect : Rect
  pub frame : Frame
  pub words : List ℕ

-- the marked squares
abbrev pub mapped : MarkMap → SquareSet
mapped map x y = holds map.rect x y && has_place map.words (place_of map.frame x y)

-- the rectangle lies in the world and in the frame, and the map has the frame's words or none
pub record IsMarkMap (map : MarkMap) : Type 0 where
  pub legal : IsRectangleIn world map.rect
  pub round : IsRound map.frame map.rect 0
  pub size : 0 < length map.words → length map.words ≡ map.frame.words * map.frame.rows

-- a run of places that the words have, with none between the place `from` and its start, nor at its end; it ends at a limit at the latest
pub record IsPlaceRun (words : List ℕ) (from limit start «end» : ℕ) : Type 0 where
  pub after : from ≤ start
  pub some : start < «end»
  pub within : «end» ≤ limit
  pub none : (n : ℕ) → from ≤ n → n < start → has_place words n ≡ false
  pub all : (n : ℕ) → start ≤ n → n < «end» → has_place words n ≡ true
  pub ends : «end» < limit → has_place words «end» ≡ false

-- the first and the last one of the places from one on, up to a limit, that the words have, or haven't; the last is the one before `end`
pub record ArePlaceEnds (words : List ℕ) (has : Bool) (from limit start «end» : ℕ) : Type 0 where
  pub after : from ≤ start
  pub some : start < «end»
  pub within : «end» ≤ limit
  pub none_before : (n : ℕ) → from ≤ n → n < start → has_place words n ≡ not has
  pub none_behind : (n : ℕ) → «end» ≤ n → n < limit → has_place words n ≡ not has
  pub first : has_place words start ≡ has
  pub last : has_place words («end» - 1) ≡ has

-- ---- bounds
-- the area has the squares of the set, and each of its lines lies as far in as they let it; where there are none, beyond all lines
pub record IsTightOf (set : SquareSet) (area : Rect) : Type 0 where
  pub all : (x y : ℕ) → set x y ≡ true → holds area x y ≡ true
  pub left : (line : ℕ) → line ≤ 4294967295 → ((x y : ℕ) → set x y ≡ true → line ≤ x) → line ≤ area.left
  pub bottom : (line : ℕ) → line ≤ 4294967295 → ((x y : ℕ) → set x y ≡ true → line ≤ y) → line ≤ area.bottom
  pub right : (line : ℕ) → ((x y : ℕ) → set x y ≡ true → x < line) → area.right ≤ line
  pub top : (line : ℕ) → ((x y : ℕ) → set x y ≡ true → y < line) → area.top ≤ line

-- the squares of a row of an area that are marked otherwise than all of them are to be
abbrev pub row_squares : Frame → List ℕ → Bool → Rect → ℕ → SquareSet
row_squares frame words wanted area row x y = is_between row (row + 1) y && (holds area x y && differs wanted (has_place words (place_of frame x y)))

-- ---- areas of a map
-- the areas lie in the map's rectangle, few in each row, and have exactly the marked squares, which are so many
pub record AreMarksOf (map : MarkMap) (areas : List Rect) (number : ℕ) : Type 0 where
  pub inside : AreInside map.rect areas
  pub few : length areas ≤ runs_of_rows map.rect
  pub squares : (x y : ℕ) → squares_of areas x y ≡ mapped map x y
  pub count : number ≡ square_count map.rect (squares_of areas)
