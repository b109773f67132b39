-- Which squares of a rectangle each rule forbids, and lists of them, rule by rule.
use Rattle.std.specs.Prelude.{◌≡◌, ℕ, ◌+◌, ◌<◌, ◌⊎◌, Bool, ◌||◌, ◌&&◌, false, true, List, [], length, get_or, Option, Some, None, slice_get}
use Rattle.mls_edgerule.specs.declared.edge_rule.EdgeRule.{EdgeRule}
use Rattle.mls_geom.specs.Layouts.{Layout}
use Rattle.mls_geom.specs.Rects.{Rect, holds}
use Rattle.mls_kinds.specs.KindSets.{has_bit}
use Rattle.mls_checker.specs.Forbids.{forbids}
use Rattle.mls_checker.specs.Marking.{SquareSet, has_disallowed_kind, squares_of}
use Rattle.mls_checker.specs.Tiles.{Tile}

-- the squares of the rectangle that the rule forbids
abbrev pub forbidden_by : EdgeRule → Rect → Layout → SquareSet
forbidden_by rule rect layout x y = holds rect x y && forbids rule layout (record { x = x; y = y })

-- those of a rule, if there is one
abbrev pub violations_of : Option EdgeRule → Rect → Layout → SquareSet
violations_of None rect layout x y = false
violations_of (Some rule) rect layout x y = forbidden_by rule rect layout x y

-- the list of this index among lists of areas, and none where there are fewer
abbrev pub areas_at : List (List Rect) → ℕ → List Rect
areas_at lists k = get_or lists k []

-- the list of each rule whose bit is in the set has gained areas of the squares of the rectangle that the rule forbids
pub record GainViolations (rules : List EdgeRule) (set : ℕ) (rect : Rect) (layout : Layout) (old new : List (List Rect)) : Type 0 where
  pub as_many : length new ≡ length old
  pub squares : (k : ℕ) → has_bit set k ≡ true → (x y : ℕ) → squares_of (areas_at new k) x y ≡ (squares_of (areas_at old k) x y || violations_of (slice_get rules k) rect layout x y)

-- the list of each such rule may have gained some of these areas
pub record GainSomeViolations (rules : List EdgeRule) (set : ℕ) (rect : Rect) (layout : Layout) (old new : List (List Rect)) : Type 0 where
  pub as_many : length new ≡ length old
  pub squares : (k : ℕ) → has_bit set k ≡ true → (x y : ℕ) → (squares_of (areas_at new k) x y || violations_of (slice_get rules k) rect layout x y) ≡ (squares_of (areas_at old k) x y || violations_of (slice_get rules k) rect layout x y)

-- the rectangle is more than 256 squares wide or high
abbrev pub IsLarge : Rect → Type 0
IsLarge rect = (rect.left + 256 < rect.right) ⊎ (rect.bottom + 256 < rect.top)

-- ---- by tiles
-- the part has the square, and the rule doesn't allow its kind
abbrev pub shows_disallowed : EdgeRule → ℕ → ℕ → Tile → Bool
shows_disallowed rule x y part = has_disallowed_kind rule part && holds part.area x y

-- what a list of parts starts from: its rectangle, the rule by which it takes parts, the squares that it has, and whether one is missing
pub record ListStart : Type 0 where
  pub rect : Rect
  pub rule : EdgeRule
  pub set : SquareSet
  pub is_short : Bool
