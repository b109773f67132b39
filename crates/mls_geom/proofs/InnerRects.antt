-- Rectangles that lie in others.
use Rattle.std.proofs.Common.{arith}
use Rattle.mls_geom.specs.Rects.{Rect, IsRectangleIn, IsWithin}

-- what lies in a rectangle lies in one that encloses it
pub IsRectangleIn-through : (outer middle e : Rect) → IsWithin outer middle → IsRectangleIn middle e → IsRectangleIn outer e
IsRectangleIn-through outer middle e sides inside = record {
  left_in = omega (arith, sides.left, inside.left_in);
  wide = inside.wide;
  right_in = omega (arith, sides.right, inside.right_in);
  bottom_in = omega (arith, sides.bottom, inside.bottom_in);
  tall = inside.tall;
  top_in = omega (arith, sides.top, inside.top_in);
}

-- a rectangle of an extent lies in itself
pub IsRectangleIn-itself : (extent e : Rect) → IsRectangleIn extent e → IsRectangleIn e e
IsRectangleIn-itself extent e inside =
    record { left_in = omega arith; wide = inside.wide; right_in = omega arith; bottom_in = omega arith; tall = inside.tall; top_in = omega arith }

-- so a rectangle that encloses one of an extent has it as a part
pub IsRectangleIn-within : (outer extent e : Rect) → IsWithin outer e → IsRectangleIn extent e → IsRectangleIn outer e
IsRectangleIn-within outer extent e sides inside = IsRectangleIn-through outer e e sides (IsRectangleIn-itself extent e inside)
