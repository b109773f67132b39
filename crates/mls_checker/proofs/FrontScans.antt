-- Scans of the squares just before tiles, tile by tile and part by part.
use Rattle.std.proofs.Common.{◌≡◌, ℕ, ◌+◌, ◌<◌, ◌≤◌, Bool, true, ◌||◌, List, [], ◌++◌, length, map, take, get_or, refl, sym, ap, subst, ◌∙◌, arith}
use Rattle.std.specs.List.{Contains, list_any}
use Rattle.std.proofs.lemmas.Bool.{and_parts}
use Rattle.std.proofs.lemmas.List.{get_or_default, map-append}
use Rattle.std.proofs.lemmas.List.Elements.{All-contains, All-nil}
use Rattle.std.proofs.lemmas.List.Folds.{list_any-append}
use Rattle.mls_edgerule.specs.declared.edge_rule.EdgeRule.{EdgeRule}
use Rattle.mls_geom.specs.Directions.{axis, front_of}
use Rattle.mls_geom.specs.Layouts.{Layout}
use Rattle.mls_geom.specs.Pictures.{Picture}
use Rattle.mls_geom.specs.Rects.{IsRectangleIn, Rect, FitsWith, after_part, common, has_squares, holds}
use Rattle.mls_geom.specs.declared.direction.Direction.{Direction}
use Rattle.mls_geom.proofs.Holds.{between_holds, has_squares_lines, holds_between, holds_common}
use Rattle.mls_checker.specs.Marking.{GainsDisallowed, SquareSet}
use Rattle.mls_checker.specs.Sides.{EndsIn, GainsParts, GainsSidesReach, IsSide, Side, faced, front_reaches, front_side, reaches_from, sides_reach}
use Rattle.mls_checker.specs.Tiles.{AreTiles, HasTile, Tile, outer, space_in}
use Rattle.mls_checker.proofs.FacedSides.{list_any-mapped}
use Rattle.mls_checker.proofs.FlankParts.{after-lines}
use Rattle.mls_checker.proofs.Gathering.{gains_both, gains_nothing, gains_same}
use Rattle.mls_checker.proofs.RectParts.{common-legal}
use Rattle.mls_checker.proofs.SideLists.{SidesSoFar, front-EndsIn, gains-sides, outer-FitsWith, part-IsSide, sides-AreSides, sides-next}

-- ---- tile by tile
-- a sink gained what the sides of these tiles reach
abbrev pub FrontsSoFar : {S : Type 0} → (S → Layout → Rect → SquareSet → Type 0) → EdgeRule → Layout → List Tile → Rect → Direction → List Tile → S → S → Type 0
FrontsSoFar represents rule layout tiles area direction some old new =
    (sides : List Side) × SidesSoFar (axis direction) outer (layout rule.trigger_plane) some sides
    × GainsDisallowed represents rule layout (λ x y. sides_reach rule tiles area (map (faced direction) sides) x y direction) old new

pub fronts_none :
    {S : Type 0} (represents : S → Layout → Rect → SquareSet → Type 0) (rule : EdgeRule) (layout : Layout) (tiles : List Tile) (area : Rect) (direction : Direction) (sink : S)
    → FrontsSoFar represents rule layout tiles area direction [] sink sink
fronts_none represents rule layout tiles area direction sink = (
  [],
  record {
    bounded = All-nil (λ (side : Side). EndsIn outer side.area);
    each = All-nil (IsSide (axis direction) (layout rule.trigger_plane));
    whole = λ p there before. (let (k, tile, within, is, here) = there in absurd (omega (arith, within)));
  },
  gains_nothing represents rule layout (λ x y. sides_reach rule tiles area (map (faced direction) []) x y direction) sink (λ x y. refl),
)

-- what the sides with the parts before a tile reach, part by part
front-mapped :
    (rule : EdgeRule) (tiles parts : List Tile) (area : Rect) (direction : Direction) (kind x y : ℕ)
    → list_any (front_reaches rule tiles area direction kind x y) parts ≡ sides_reach rule tiles area (map (faced direction) (map (front_side (axis direction) kind) parts)) x y direction
front-mapped rule tiles parts area direction kind x y =
    let test : Side → Bool = reaches_from rule tiles area direction x y in
    list_any-mapped (λ (side : Side). test (faced direction side)) (front_side (axis direction) kind) parts ∙ list_any-mapped test (faced direction) (map (front_side (axis direction) kind) parts)

pub fronts_more :
    {S : Type 0} (represents : S → Layout → Rect → SquareSet → Type 0) (rule : EdgeRule) (layout : Layout) (tiles : List Tile) (area : Rect) (direction : Direction) (n : ℕ) (tile : Tile) (old middle new : S)
    → AreTiles outer (layout rule.trigger_plane) tiles → n < length tiles → tile ≡ get_or tiles n tile
    → FrontsSoFar represents rule layout tiles area direction (take n tiles) old middle
    → GainsParts represents rule layout (front_reaches rule tiles area direction tile.kind) (common (front_of (axis direction) tile.area) outer) middle new
    → FrontsSoFar represents rule layout tiles area direction (take (n + 1) tiles) old new
fronts_more represents rule layout tiles area direction n tile old middle new are within is so_far more =
    let picture = layout rule.trigger_plane in
    let (sides, sides_are, first) = so_far in
    let (parts, parts_are, second) = more in
    let added = map (front_side (axis direction) tile.kind) parts in
    let all = sides ++ added in
    let shown = All-contains (HasTile picture) tiles tile are.shown (n, within, sym is) in
    let legal = All-contains (λ (t : Tile). IsRectangleIn outer t.area) tiles tile are.bounded (n, within, sym is) in
    let reach : List Side → SquareSet = λ some x y. sides_reach rule tiles area (map (faced direction) some) x y direction in (
      all,
      sides-next (axis direction) outer picture tiles n tile sides all within is sides_are
          (gains-sides (axis direction) outer picture tile sides parts (omega arith) (omega arith) shown legal parts_are),
      gains_same represents rule layout (λ x y. reach sides x y || list_any (front_reaches rule tiles area direction tile.kind x y) parts) (reach all) old new
          (λ x y. ap (λ b. reach sides x y || b) (front-mapped rule tiles parts area direction tile.kind x y)
          ∙ sym (ap (λ (some : List Side). list_any (reaches_from rule tiles area direction x y) some) (map-append (faced direction) sides added)
          ∙ list_any-append (reaches_from rule tiles area direction x y) (map (faced direction) sides) (map (faced direction) added)))
          (gains_both represents rule layout (reach sides) (λ x y. list_any (front_reaches rule tiles area direction tile.kind x y) parts) old middle new first second),
    )

pub fronts_all :
    {S : Type 0} (represents : S → Layout → Rect → SquareSet → Type 0) (rule : EdgeRule) (layout : Layout) (tiles : List Tile) (area : Rect) (direction : Direction) (old new : S)
    → AreTiles outer (layout rule.trigger_plane) tiles → FrontsSoFar represents rule layout tiles area direction tiles old new → GainsSidesReach represents rule layout tiles area direction old new
fronts_all represents rule layout tiles area direction old new are all =
    let (sides, sides_are, gains) = all in (sides, sides-AreSides (axis direction) outer (layout rule.trigger_plane) tiles sides are sides_are, gains)

-- ---- part by part

-- a rectangle goes on to the right and upper lines of another
pub record IsRestOf (whole rest : Rect) : Type 0 where
  pub left : whole.left ≤ rest.left
  pub below : whole.bottom ≤ rest.bottom
  pub right : rest.right ≡ whole.right
  pub above : rest.top ≡ whole.top

-- what is left of it after a part does too
pub after-IsRestOf : (whole rest tile : Rect) → IsRestOf whole rest → holds tile rest.left rest.bottom ≡ true → has_squares rest ≡ true → IsRestOf whole (after_part rest (common tile rest))
after-IsRestOf whole rest tile is corner some =
    let lines = after-lines rest tile corner some in
    record {
      left = omega (arith, is.left, lines.0);
      below = omega (arith, is.below, lines.1);
      right = lines.2 ∙ is.right;
      above = lines.3 ∙ is.above;
    }

-- the part at its lower left lies in the other
pub part-IsRectangleIn : (whole rest tile : Rect) → IsRestOf whole rest → holds tile rest.left rest.bottom ≡ true → has_squares rest ≡ true → IsRectangleIn whole (common tile rest)
part-IsRectangleIn whole rest tile is corner some =
    let lines = holds_between tile rest.left rest.bottom corner in
    let sides = has_squares_lines rest some in
    record {
      left_in = omega (arith, is.left);
      wide = omega arith;
      right_in = omega (arith, is.right);
      bottom_in = omega (arith, is.below);
      tall = omega arith;
      top_in = omega (arith, is.above);
    }

-- its lower-left square lies in the extent, where it has squares
pub rest-in : (front extent rest : Rect) → IsRestOf (common front extent) rest → has_squares rest ≡ true → holds extent rest.left rest.bottom ≡ true
rest-in front extent rest is some =
    let sides = has_squares_lines rest some in
    between_holds extent rest.left rest.bottom (omega (arith, is.left)) (omega (arith, is.right)) (omega (arith, is.below)) (omega (arith, is.above))

-- what the code makes of a part is the side of the tile with it
pub made-front_side :
    (direction d : Direction) (tile other part : Tile) (kind : ℕ) (rest : Rect) (side : Side) → IsRestOf (common (front_of direction tile.area) outer) rest
    → holds other.area rest.left rest.bottom ≡ true → has_squares rest ≡ true → part ≡ record { area = common other.area rest; kind = other.kind } → d ≡ direction → kind ≡ tile.kind
    → (FitsWith 1 part.area → side ≡ front_side d kind part) → side ≡ front_side direction tile.kind part
made-front_side direction d tile other part kind rest side is corner some is_part same_direction same_kind made =
    let front = front_of direction tile.area in
    let inside : IsRectangleIn (common front outer) part.area = subst (λ (t : Tile). IsRectangleIn (common front outer) t.area) (sym is_part) (part-IsRectangleIn (common front outer) rest other.area is corner some) in
    made (outer-FitsWith part.area (common-legal front outer part.area inside)) ∙ ap (λ (e : Direction). front_side e kind part) same_direction ∙ ap (λ (n : ℕ). front_side direction n part) same_kind

-- it is a side, and ends among the squares that tiles cover
pub front_side-IsSide :
    (direction : Direction) (picture : Picture) (tile other part : Tile) (rest : Rect) → HasTile picture tile → IsRectangleIn outer tile.area → HasTile picture other
    → IsRestOf (common (front_of direction tile.area) outer) rest → holds other.area rest.left rest.bottom ≡ true → has_squares rest ≡ true
    → part ≡ record { area = common other.area rest; kind = other.kind }
    → IsSide direction picture (front_side direction tile.kind part) × EndsIn outer (front_side direction tile.kind part).area
front_side-IsSide direction picture tile other part rest shown legal shown' is corner some is_part =
    let front = common (front_of direction tile.area) outer in
    let inside = part-IsRectangleIn front rest other.area is corner some in
    let piece : Tile = record { area = common other.area rest; kind = other.kind } in
    let piece_shown : HasTile picture piece = λ x y here. shown' x y ((and_parts (holds other.area x y) (holds rest x y) (sym (holds_common other.area rest x y) ∙ here)).0) in
    subst (λ (t : Tile). IsSide direction picture (front_side direction tile.kind t) × EndsIn outer (front_side direction tile.kind t).area) (sym is_part)
    (part-IsSide direction outer picture tile piece shown piece_shown legal inside, front-EndsIn direction outer tile.area piece.area legal inside)

-- what is known of the side that the code makes of such a part, which lies in another tile of the zone
pub record IsFrontIn (direction : Direction) (picture : Picture) (tile other part : Tile) (made : Side) : Type 0 where
  pub is : made ≡ front_side direction tile.kind part
  pub side : IsSide direction picture made
  pub bounded : EndsIn outer made.area
  pub shown : HasTile picture other

pub made-IsFrontIn :
    {direction d : Direction} {picture : Picture} {tiles list : List Tile} {index kind : ℕ} {read : Tile} (other part : Tile) (rest : Rect) (made : Side)
    → AreTiles outer picture tiles → list ≡ tiles → index < length tiles → read ≡ get_or list index read → kind ≡ read.kind → d ≡ direction
    → IsRestOf (common (front_of direction (get_or tiles index (space_in outer)).area) outer) rest → has_squares rest ≡ true → Contains tiles other
    → holds other.area rest.left rest.bottom ≡ true → part ≡ record { area = common other.area rest; kind = other.kind } → (FitsWith 1 part.area → made ≡ front_side d kind part)
    → IsFrontIn direction picture (get_or tiles index (space_in outer)) other part made
made-IsFrontIn {direction} {d} {picture} {tiles} {list} {index} {kind} {read} other part rest made are same within is same_kind same_direction of_tile some listed corner is_part makes =
    let tile = get_or tiles index (space_in outer) in
    let at_index : Contains tiles tile = (index, within, get_or_default tiles index tile (space_in outer) within) in
    let is_tile : read ≡ tile = is ∙ ap (λ (ts : List Tile). get_or ts index read) same ∙ get_or_default tiles index read (space_in outer) within in
    let shown : HasTile picture other = All-contains (HasTile picture) tiles other are.shown listed in
    let side =
    front_side-IsSide direction picture tile other part rest (All-contains (HasTile picture) tiles tile are.shown at_index)
    (All-contains (λ (t : Tile). IsRectangleIn outer t.area) tiles tile are.bounded at_index) shown of_tile corner some is_part in
    let is : made ≡ front_side direction tile.kind part =
    made-front_side direction d tile other part kind rest made of_tile corner some is_part same_direction (same_kind ∙ ap (λ (t : Tile). t.kind) is_tile) makes in
    record {
      is = is;
      side = subst (IsSide direction picture) (sym is) side.0;
      bounded = subst (λ (s : Side). EndsIn outer s.area) (sym is) side.1;
      shown = shown;
    }
