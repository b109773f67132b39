-- The kinds of the squares of a rectangle, and rectangles that have a square in common.
use Rattle.mls_geom.proofs.Common.{◌≡◌, ℕ, max, ◌==◌, true, eq-eqb, eqb-true, arith, list_any, nat_tests, Any-from_list_any, list_any-from_Any}
use Rattle.mls_geom.proofs.Definitions.{Rect, holds, meets, Picture, columns, rows, shows}
use Rattle.mls_geom.proofs.Holds.{between_holds, holds_between}
use Rattle.mls_geom.proofs.Squares.{Contains-range_with_len, range_with_len-Contains}

-- some square of the rectangle has the kind
abbrev pub ShowsAt : Picture → Rect → ℕ → Type 0
ShowsAt picture e kind = (x y : ℕ) × (holds e x y ≡ true) × (picture x y ≡ kind)

-- the test finds such a square
pub ShowsAt-from_shows : (picture : Picture) (e : Rect) (kind : ℕ) → shows picture e kind ≡ true → ShowsAt picture e kind
ShowsAt-from_shows picture e kind h =
    let (i, y, row_within, row_is, in_row) = Any-from_list_any (λ y. list_any (λ x. picture x y == kind) (columns e)) (rows e) h in
    let (j, x, column_within, column_is, same) = Any-from_list_any (λ x. picture x y == kind) (columns e) in_row in
    let row = range_with_len-Contains e.bottom e.top y (i, row_within, row_is) in
    let column = range_with_len-Contains e.left e.right x (j, column_within, column_is) in
    (x, y, between_holds e x y column.0 column.1 row.0 row.1, eqb-true (picture x y) kind same)

pub shows-from_ShowsAt : (picture : Picture) (e : Rect) (kind : ℕ) → ShowsAt picture e kind → shows picture e kind ≡ true
shows-from_ShowsAt picture e kind (x, y, inside, same) =
    let lines = holds_between e x y inside in
    let (i, row_within, row_is) = Contains-range_with_len e.bottom e.top y lines.2 lines.3 in
    let (j, column_within, column_is) = Contains-range_with_len e.left e.right x lines.0 lines.1 in
    list_any-from_Any (λ y. list_any (λ x. picture x y == kind) (columns e)) (rows e)
    (i, y, row_within, row_is, list_any-from_Any (λ x. picture x y == kind) (columns e) (j, x, column_within, column_is, eq-eqb (picture x y) kind same))

-- two rectangles that meet have a square in common
pub common_square : (a b : Rect) → meets a b ≡ true → (x y : ℕ) × (holds a x y ≡ true) × (holds b x y ≡ true)
common_square a b met = (max a.left b.left, max a.bottom b.bottom, grind (arith, nat_tests), grind (arith, nat_tests))

-- and two that have one meet
pub meets_by_square : (a b : Rect) (x y : ℕ) → holds a x y ≡ true → holds b x y ≡ true → meets a b ≡ true
meets_by_square a b x y in_a in_b = grind (arith, nat_tests)
