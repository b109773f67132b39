-- What rules forbid in a rectangle of a layout, rule by rule, as maximal strips. This project's own.
use Rattle.std.specs.Prelude.{ℕ, ◌≡◌, ◌-◌, ◌&&◌, ◌==◌, if◌then◌else◌, List, map, filter, length, slice_get, sum_by}
use Rattle.std.specs.List.{list_any}
use Rattle.mls_errorplane.specs.Common.{EdgeRule, Layout, Picture, Rect, SquareSet, areas_at, holds, rules_in, squares_of, strips_of, uncovered, violated_rules, violations_of, world}
use Rattle.mls_errorplane.specs.ErrorPlanes.{marks_picture}

-- the maximal strips of the squares that a set has in the world, by bottom and then left
unfoldable pub set_strips : SquareSet → List Rect
set_strips set = map (λ piece. piece.rect) (filter (λ piece. piece.kind == 1) (strips_of world (marks_picture set)))

-- a rule by its number, counted from 1, and strips of the squares that it forbids
pub record Violation : Type 0 where
  pub rule : ℕ
  pub strips : List Rect

-- rule n and what it forbids in the rectangle
abbrev pub violation_of : List EdgeRule → Rect → Layout → ℕ → Violation
violation_of rules rect layout n = record { rule = n; strips = set_strips (violations_of (slice_get rules (n - 1)) rect layout) }

-- each rule that forbids some square of the rectangle, by rising number, and what it forbids there
unfoldable pub violations_in : List EdgeRule → Rect → Layout → List Violation
violations_in rules rect layout = map (violation_of rules rect layout) (rules_in (violated_rules rules rect layout))

-- how many strips all of these rules have together
abbrev pub strip_count : List Violation → ℕ
strip_count violations = sum_by (λ violation. length violation.strips) violations

-- the squares of all their strips
abbrev pub squares_in_all : List Violation → SquareSet
squares_in_all violations x y = list_any (λ violation. squares_of violation.strips x y) violations

-- ---- from areas
-- the squares of the rectangle that areas have
abbrev pub squares_within : Rect → List Rect → SquareSet
squares_within rect areas x y = holds rect x y && squares_of areas x y

-- kind 1 where the set has the square, and nothing elsewhere
abbrev pub Covers : Picture → SquareSet → Type 0
Covers picture set = (x y : ℕ) → picture x y ≡ (if set x y then 1 else uncovered)

-- rule n, and the strips of what its areas have of the rectangle
abbrev pub listed_violation : Rect → List (List Rect) → ℕ → Violation
listed_violation rect lists n = record { rule = n; strips = set_strips (squares_within rect (areas_at lists (n - 1))) }
