-- The smallest rectangle round two.
use Rattle.mls_geom.proofs.Common.{◌≡◌, ℕ, true, arith, nat_tests}
use Rattle.mls_geom.specs.Rects.{Rect, IsRectangleIn, IsWithin, holds, joined}
use Rattle.mls_geom.proofs.InnerRects.{IsRectangleIn-through, IsRectangleIn-within}

-- what lies within the first lies within it, and so does the second
pub IsWithin-joined : (a b e : Rect) → IsWithin a e → IsWithin (joined a b) e
IsWithin-joined a b e inside = record { left = omega (arith, inside.left); bottom = omega (arith, inside.bottom); right = omega (arith, inside.right); top = omega (arith, inside.top) }

IsWithin-joined_first : (a b : Rect) → IsWithin (joined a b) a
IsWithin-joined_first a b = record { left = omega arith; bottom = omega arith; right = omega arith; top = omega arith }

pub IsWithin-joined_itself : (a b : Rect) → IsWithin (joined a b) b
IsWithin-joined_itself a b = record { left = omega arith; bottom = omega arith; right = omega arith; top = omega arith }

-- the same of rectangles with squares
pub IsRectangleIn-joined : (a b e : Rect) → IsRectangleIn a e → IsRectangleIn (joined a b) e
IsRectangleIn-joined a b e inside = IsRectangleIn-through (joined a b) a e (IsWithin-joined_first a b) inside

pub IsRectangleIn-joined_itself : (extent a b : Rect) → IsRectangleIn extent b → IsRectangleIn (joined a b) b
IsRectangleIn-joined_itself extent a b legal = IsRectangleIn-within (joined a b) extent b (IsWithin-joined_itself a b) legal

-- it lies in an extent where both do
pub joined-IsRectangleIn : (extent a b : Rect) → IsRectangleIn extent a → IsRectangleIn extent b → IsRectangleIn extent (joined a b)
joined-IsRectangleIn extent a b one other = record {
  left_in = omega (arith, one.left_in, other.left_in);
  wide = omega (arith, one.wide);
  right_in = omega (arith, one.right_in, other.right_in);
  bottom_in = omega (arith, one.bottom_in, other.bottom_in);
  tall = omega (arith, one.tall);
  top_in = omega (arith, one.top_in, other.top_in);
}

-- it has the squares of both
pub holds-joined_one : (a b : Rect) (x y : ℕ) → holds a x y ≡ true → holds (joined a b) x y ≡ true
holds-joined_one a b x y inside = grind (arith, nat_tests)

pub holds-joined_other : (a b : Rect) (x y : ℕ) → holds b x y ≡ true → holds (joined a b) x y ≡ true
holds-joined_other a b x y inside = grind (arith, nat_tests)
