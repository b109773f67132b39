-- Maps of one bit a place: words, 64 places to a word; and squares as places, row after row.
use Rattle.std.specs.Prelude.{◌≡◌, ℕ, ◌+◌, ◌-◌, ◌*◌, ◌/◌, ◌%◌, ◌<◌, ◌≤◌, Bool, not, ◌||◌, ◌&&◌, true, false, List, length}
use Rattle.std.specs.List.{All, list_any, range_with_len}
use Rattle.mls_edgerule.specs.declared.edge_rule.EdgeRule.{EdgeRule}
use Rattle.mls_geom.specs.Directions.{across}
use Rattle.mls_geom.specs.Layouts.{Layout}
use Rattle.mls_geom.specs.Pictures.{Picture}
use Rattle.mls_geom.specs.Rects.{Point, Rect, holds}
use Rattle.mls_geom.specs.declared.direction.Direction.{Direction}
use Rattle.mls_geom.specs.declared.direction.Direction.TheVariants.{Right, Up, Left, Down}
use Rattle.mls_kinds.specs.KindSets.{has_bit as has_type}
use Rattle.mls_checker.specs.Forbids.{forbids}
use Rattle.mls_checker.specs.Grids.{has_column}
use Rattle.mls_checker.specs.Marking.{SquareSet}

-- the words have the place
abbrev pub has_place : List ℕ → ℕ → Bool
has_place words n = has_column words (n / 64) (n % 64)

-- the place so many places before n, or, where steps lead back, behind it
abbrev pub place_before : Bool → ℕ → ℕ → ℕ
place_before true places n = n - places
place_before false places n = n + places

-- one of the places n, n + places, n + 2 * places .., so many, passes the test
abbrev pub has_ahead : (ℕ → Bool) → ℕ → ℕ → ℕ → Bool
has_ahead test places count n = list_any (λ i. test (n + i * places)) (range_with_len 0 count)

-- where so many steps begin that end at home, where they lead on, or begin there
abbrev pub start_of : Bool → ℕ → ℕ → ℕ → ℕ
start_of true places count home = home - (count - 1) * places
start_of false places count home = home

-- ---- squares as places
-- the squares of a map: its lower-left corner, how many words a row has, and how many rows there are
pub record Frame : Type 0 where
  pub left : ℕ
  pub bottom : ℕ
  pub words : ℕ
  pub rows : ℕ

abbrev pub frame_area : Frame → Rect
frame_area frame = record { left = frame.left; bottom = frame.bottom; right = frame.left + 64 * frame.words; top = frame.bottom + frame.rows }

-- the place of a square
abbrev pub place_of : Frame → ℕ → ℕ → ℕ
place_of frame x y = (y - frame.bottom) * (64 * frame.words) + (x - frame.left)

-- squares that tiles cover
pub record IsFrame (frame : Frame) : Type 0 where
  pub left : 1 ≤ frame.left
  pub below : 1 ≤ frame.bottom
  pub right : frame.left + 64 * frame.words ≤ 16777216
  pub above : frame.bottom + frame.rows ≤ 16777216

-- the frame has the piece, and so many squares more on each side
pub record IsRound (frame : Frame) (piece : Rect) (margin : ℕ) : Type 0 where
  pub left : frame.left + margin ≤ piece.left
  pub below : frame.bottom + margin ≤ piece.bottom
  pub right : piece.right + margin ≤ frame.left + 64 * frame.words
  pub above : piece.top + margin ≤ frame.bottom + frame.rows

-- in the frame, the map has the squares of the set
abbrev pub Shows : Frame → SquareSet → List ℕ → Type 0
Shows frame set map = (x y : ℕ) → holds (frame_area frame) x y ≡ true → has_place map (place_of frame x y) ≡ set x y

-- steps in the direction lead to greater places
abbrev pub leads_on : Direction → Bool
leads_on Right = true
leads_on Up = true
leads_on Left = false
leads_on Down = false

-- how many places a step in the direction leads on or back
abbrev pub places_of : Frame → Direction → ℕ
places_of frame Right = 1
places_of frame Up = 64 * frame.words
places_of frame Left = 1
places_of frame Down = 64 * frame.words

-- the squares of a picture that have a type of the set
abbrev pub of_types : ℕ → Picture → SquareSet
of_types types picture x y = has_type types (picture x y)

-- a map of a set of types of a plane
pub record TypeMap : Type 0 where
  pub plane : ℕ
  pub types : ℕ
  pub map : List ℕ

-- it has the words of the frame, and shows the types
pub record IsTypeMap (frame : Frame) (layout : Layout) (one : TypeMap) : Type 0 where
  pub size : length one.map ≡ frame.words * frame.rows
  pub shows : Shows frame (of_types one.types (layout one.plane)) one.map

-- each map is such a map
abbrev pub AreTypeMaps : Frame → Layout → List TypeMap → Type 0
AreTypeMaps frame layout maps = All (IsTypeMap frame layout) maps

-- ---- what edges reach
-- maps of the squares of types1, of types2 and of corner types
pub record TypeMaps : Type 0 where
  pub frame : Frame
  pub before : List ℕ
  pub behind : List ℕ
  pub beside : List ℕ

-- each has the words of the frame
pub record AreSized (maps : TypeMaps) : Type 0 where
  pub before : length maps.before ≡ maps.frame.words * maps.frame.rows
  pub behind : length maps.behind ≡ maps.frame.words * maps.frame.rows
  pub beside : length maps.beside ≡ maps.frame.words * maps.frame.rows

-- all squares at most so many columns and so many rows from this one lie in the frame
pub record IsDeep (frame : Frame) (depth x y : ℕ) : Type 0 where
  pub left : frame.left + depth ≤ x
  pub right : x + depth < frame.left + 64 * frame.words
  pub below : frame.bottom + depth ≤ y
  pub above : y + depth < frame.bottom + frame.rows

-- the square at a column and a row
abbrev pub square : ℕ → ℕ → Point
square x y = record { x = x; y = y }

-- the square lies in the frame
abbrev pub IsIn : Frame → Point → Type 0
IsIn frame p = holds (frame_area frame) p.x p.y ≡ true

-- the maps have the squares of types1, of types2 and of corner types
pub record ShowTypes (rule : EdgeRule) (layout : Layout) (maps : TypeMaps) : Type 0 where
  pub types1 : Shows maps.frame (of_types rule.types1 (layout rule.trigger_plane)) maps.before
  pub types2 : Shows maps.frame (of_types rule.types2 (layout rule.trigger_plane)) maps.behind
  pub corners : Shows maps.frame (of_types rule.corner_types (layout rule.trigger_plane)) maps.beside

-- rows of squares go so
abbrev pub is_level : Direction → Bool
is_level Right = true
is_level Up = false
is_level Left = true
is_level Down = false

-- an edge lies at the start of so many steps: a place of types2, and one of types1 a step before it
abbrev pub row_at : List ℕ → List ℕ → Bool → ℕ → ℕ → ℕ → ℕ → Bool
row_at before behind is_on places count home n =
    has_place behind (n + start_of is_on places count home) && has_place before (n + place_before is_on places (start_of is_on places count home))

-- so many steps, and as many to the flank, begin at a place that has an edge a step before it on the flank, and a corner type a step before it
abbrev pub corner_at : List ℕ → List ℕ → List ℕ → Bool → ℕ → Bool → ℕ → ℕ → ℕ → ℕ → Bool
corner_at before behind beside is_on places is_on' places' count home n =
    (has_place behind (n + place_before is_on' places' (start_of is_on' places' count (start_of is_on places count home)))
    && has_place before (n + place_before is_on places (place_before is_on' places' (start_of is_on' places' count (start_of is_on places count home)))))
    && has_place beside (n + place_before is_on places (start_of is_on' places' count (start_of is_on places count home)))

-- rows in a direction, and corner blocks of it, begin at n
abbrev pub row_begins : List ℕ → List ℕ → Frame → ℕ → ℕ → ℕ → Direction → Bool
row_begins before behind frame count home n direction = row_at before behind (leads_on direction) (places_of frame direction) count home n

abbrev pub corner_begins : List ℕ → List ℕ → List ℕ → Frame → ℕ → ℕ → ℕ → Direction → Direction → Bool
corner_begins before behind beside frame count home n direction flank =
    corner_at before behind beside (leads_on direction) (places_of frame direction) (leads_on flank) (places_of frame flank) count home n

-- the first direction comes before the second one where rules list both
abbrev pub comes_first : Direction → Direction → Bool
comes_first Right Up = true
comes_first Right Down = true
comes_first Up Left = true
comes_first Left Down = true
comes_first flank direction = false

-- the same on either flank of a direction; where corner types are types2, not on one that comes first, whose own blocks these are
abbrev pub corners_begin : List ℕ → List ℕ → List ℕ → Frame → Bool → ℕ → ℕ → ℕ → Direction → Bool
corners_begin before behind beside frame same count home n direction =
    list_any (λ flank. not (same && comes_first flank direction) && corner_begins before behind beside frame count home n direction flank) (across direction)

-- n, and what is read from it, lie in the map
abbrev pub Reads : Frame → ℕ → List ℕ → ℕ → Type 0
Reads frame home map n = n + home + 64 * frame.words + 65 < 64 * length map

-- deep in the frame, the map has the squares of a set
abbrev pub HasDeep : Frame → ℕ → SquareSet → List ℕ → Type 0
HasDeep frame depth set map = (x y : ℕ) → IsDeep frame depth x y → has_place map (place_of frame x y) ≡ set x y

-- the map gained, deep in the frame, the squares of a set
abbrev pub GainsDeep : Frame → ℕ → SquareSet → List ℕ → List ℕ → Type 0
GainsDeep frame depth set old new = (x y : ℕ) → IsDeep frame depth x y → has_place new (place_of frame x y) ≡ (has_place old (place_of frame x y) || set x y)

-- the same, so many rows below
abbrev pub HasLow : Frame → ℕ → SquareSet → List ℕ → Type 0
HasLow frame depth set map = (x y : ℕ) → IsDeep frame depth x y → has_place map (place_of frame x y - depth * (64 * frame.words)) ≡ set x y

-- some rule forbids the square
abbrev pub forbidden_by_any : List EdgeRule → Layout → SquareSet
forbidden_by_any rules layout x y = list_any (λ rule. forbids rule layout (square x y)) rules

-- ---- bands that are laid on a map
-- the area lies in the frame, and begins with a word
pub record FitsIn (frame : Frame) (e : Rect) : Type 0 where
  pub left : frame.left ≤ e.left
  pub below : frame.bottom ≤ e.bottom
  pub right : e.right ≤ frame.left + 64 * frame.words
  pub above : e.top ≤ frame.bottom + frame.rows
  pub even : (e.left - frame.left) % 64 ≡ 0
