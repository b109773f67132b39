-- Rectangles of unit squares by their four lines. This project's own; the square (x, y) lies between the lines x and x + 1, and y and y + 1.
use Rattle.std.specs.Prelude.{ℕ, ◌+◌, ◌-◌, ◌*◌, ◌^◌, ◌<◌, ◌≤◌, ◌==◌, max, min, Bool, ◌&&◌, nat_lt, nat_le, if◌then◌else◌, Option, Some, None}

-- the four lines of a rectangle, of the world, or of a zone
pub record Rect : Type 0 where
  pub left : ℕ
  pub bottom : ℕ
  pub right : ℕ
  pub top : ℕ

-- a unit square by its left line and its bottom line, which are its column and its row
pub record Point : Type 0 where
  pub x : ℕ
  pub y : ℕ

-- the square at column x and row y lies in the rectangle
abbrev pub holds : Rect → ℕ → ℕ → Bool
holds e x y = nat_le e.left x && nat_lt x e.right && nat_le e.bottom y && nat_lt y e.top

-- a rectangle with at least one square, inside another
pub record IsRectangleIn (outer e : Rect) : Type 0 where
  pub left_in : outer.left ≤ e.left
  pub wide : e.left < e.right
  pub right_in : e.right ≤ outer.right
  pub bottom_in : outer.bottom ≤ e.bottom
  pub tall : e.bottom < e.top
  pub top_in : e.top ≤ outer.top

-- no side of the rectangle lies outside the outer one; either may have no square
pub record IsWithin (outer e : Rect) : Type 0 where
  pub left : outer.left ≤ e.left
  pub bottom : outer.bottom ≤ e.bottom
  pub right : e.right ≤ outer.right
  pub top : e.top ≤ outer.top

-- the squares that lie in both have these lines; where there are none, a left line is not below its right one, or a bottom not below its top
abbrev pub common : Rect → Rect → Rect
common a b = record { left = max a.left b.left; bottom = max a.bottom b.bottom; right = min a.right b.right; top = min a.top b.top }

-- the rectangle has a square
abbrev pub has_squares : Rect → Bool
has_squares e = nat_lt e.left e.right && nat_lt e.bottom e.top

-- the rectangle of the squares that lie in both, if there are any
abbrev pub clipped : Rect → Rect → Option Rect
clipped a b = if has_squares (common a b) then Some (common a b) else None

-- some square lies in both
abbrev pub meets : Rect → Rect → Bool
meets a b = has_squares (common a b)

-- the smallest rectangle round both
abbrev pub joined : Rect → Rect → Rect
joined a b = record { left = min a.left b.left; bottom = min a.bottom b.bottom; right = max a.right b.right; top = max a.top b.top }

-- how many squares a rectangle has
abbrev pub size_of : Rect → ℕ
size_of e = (e.right - e.left) * (e.top - e.bottom)

-- h squares more on each side
abbrev pub grown : ℕ → Rect → Rect
grown h e = record { left = e.left - h; bottom = e.bottom - h; right = e.right + h; top = e.top + h }

-- what is left of a rectangle that is one square wide or one square high after the part at its lower left
abbrev pub after_part : Rect → Rect → Rect
after_part e part = if part.top == e.top then record e { left = part.right } else record e { bottom = part.top }

-- n squares on from its lines is no number that overflows a u32
pub record FitsWith (n : ℕ) (e : Rect) : Type 0 where
  pub left : e.left + n < 2 ^ 32
  pub below : e.bottom + n < 2 ^ 32
  pub right : e.right + n < 2 ^ 32
  pub above : e.top + n < 2 ^ 32
