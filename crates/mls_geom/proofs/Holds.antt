-- The squares of a rectangle by the test and by its lines.
use Rattle.mls_geom.proofs.Common.{◌≡◌, ℕ, ◌<◌, ◌≤◌, ◌&&◌, true, arith, nat_tests}
use Rattle.mls_geom.specs.Rects.{Rect, IsWithin, common, has_squares, holds}

-- a square of the rectangle lies between its lines
pub holds_between : (e : Rect) (x y : ℕ) → holds e x y ≡ true → (e.left ≤ x) × (x < e.right) × (e.bottom ≤ y) × (y < e.top)
holds_between e x y inside = grind (arith, nat_tests)

-- and a square between its lines is one of it
pub between_holds : (e : Rect) (x y : ℕ) → e.left ≤ x → x < e.right → e.bottom ≤ y → y < e.top → holds e x y ≡ true
between_holds e x y from_left to_right from_bottom to_top = grind (arith, nat_tests)

pub has_squares_lines : (e : Rect) → has_squares e ≡ true → (e.left < e.right) × (e.bottom < e.top)
has_squares_lines e some = grind (arith, nat_tests)

pub square_has_squares : (e : Rect) (x y : ℕ) → holds e x y ≡ true → has_squares e ≡ true
square_has_squares e x y here = grind (arith, nat_tests)

-- the squares that lie in two rectangles
pub holds_common : (a b : Rect) (x y : ℕ) → holds (common a b) x y ≡ (holds a x y && holds b x y)
holds_common a b x y = grind (arith, nat_tests)

-- a square of what lies within a rectangle is one of the rectangle
pub holds-IsWithin : (outer e : Rect) (x y : ℕ) → IsWithin outer e → holds e x y ≡ true → holds outer x y ≡ true
holds-IsWithin outer e x y within inside =
    let lines = holds_between e x y inside in
    between_holds outer x y (omega (arith, within.left)) (omega (arith, within.right)) (omega (arith, within.bottom)) (omega (arith, within.top))
