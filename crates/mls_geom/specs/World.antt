-- The world, and the coordinates that users give. This project's own. Coordinates are counted from a corner far outside the world, so that the
-- squares round the world have numbers too.
use Rattle.std.specs.Prelude.{ℕ, ℤ, pos, ◌+ℤ◌, ◌≤◌, nat_abs, int_lt, int_le, Bool, ◌||◌, not, if◌then◌else◌, List, Option, Some, None, Result, Ok, Err}
use Rattle.std.specs.List.{All}
use Rattle.mls_geom.specs.Rects.{Rect, Point, IsRectangleIn, holds}
use Rattle.mls_geom.specs.declared.piece.Piece.{Piece}
use Rattle.mls_geom.specs.declared.rect.RectFault.{RectFault}
use Rattle.mls_geom.specs.declared.rect.RectFault.TheVariants.{Empty, Outside}

-- what users call 0
abbrev pub origin : ℕ
origin = 4194304

-- the world reaches 1048576 squares from there to each side
abbrev pub world : Rect
world = record { left = 3145728; bottom = 3145728; right = 5242880; top = 5242880 }

-- the user's coordinate z, counted from the corner far outside the world
unfoldable pub coordinate_of : ℤ → ℕ
coordinate_of z = nat_abs (z +ℤ pos origin)

-- the world has no line at the user's coordinate z
unfoldable pub is_outside : ℤ → Bool
is_outside z = int_lt (z +ℤ pos origin) (pos world.left) || int_lt (pos world.right) (z +ℤ pos origin)

-- the rectangle between four of the user's coordinates, or its first fault
unfoldable pub rect_of : ℤ → ℤ → ℤ → ℤ → Result Rect RectFault
rect_of l b r t =
    if int_le r l || int_le t b then Err Empty
    else (if is_outside l || is_outside b || is_outside r || is_outside t then Err Outside
    else Ok (record { left = coordinate_of l; bottom = coordinate_of b; right = coordinate_of r; top = coordinate_of t }))

-- the square whose lower-left corner has these of the user's coordinates, if the world has it
unfoldable pub square_of : ℤ → ℤ → Option Point
square_of x y =
    if is_outside x || is_outside y || not (holds world (coordinate_of x) (coordinate_of y)) then None
    else Some (record { x = coordinate_of x; y = coordinate_of y })

-- each piece is a rectangle of the world
abbrev pub AreLegal : List Piece → Type 0
AreLegal pieces = All (λ piece. IsRectangleIn world piece.rect) pieces

-- the area reaches at most 256 squares over the world's border
pub record IsNearWorld (area : Rect) : Type 0 where
  pub left : 3145472 ≤ area.left
  pub below : 3145472 ≤ area.bottom
  pub right : area.right ≤ 5243136
  pub above : area.top ≤ 5243136
