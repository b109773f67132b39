-- Pictures and rectangles that are moved. This project's own.
use Rattle.std.specs.Prelude.{◌≡◌, ℕ, ℤ, pos, ◌+ℤ◌, ◌-ℤ◌, int_le, Bool, true, false, Option, Some, None}
use Rattle.mls_geom.specs.Pictures.{Picture}
use Rattle.mls_geom.specs.Rects.{Rect, IsRectangleIn, holds}

-- the kind of the square at a column and a row, which may lie below 0, where all is space
abbrev pub kind_or_space : Picture → ℤ → ℤ → ℕ
kind_or_space picture (pos x) (pos y) = picture x y
kind_or_space picture x y = 0

-- the picture moved to the right by dx columns and up by dy rows
unfoldable pub moved_picture : Picture → ℤ → ℤ → Picture
moved_picture picture dx dy x y = kind_or_space picture (pos x -ℤ dx) (pos y -ℤ dy)

-- the rectangle has the square at a column and a row, which may lie below 0
abbrev pub holds_at : Rect → ℤ → ℤ → Bool
holds_at e (pos x) (pos y) = holds e x y
holds_at e x y = false

-- the part has the squares of an extent that pass the test, if there are any
abbrev pub IsPartOf : Rect → (ℕ → ℕ → Bool) → Option Rect → Type 0
IsPartOf extent test None = (x y : ℕ) → holds extent x y ≡ true → test x y ≡ false
IsPartOf extent test (Some part) = IsRectangleIn extent part × ((x y : ℕ) → holds extent x y ≡ true → holds part x y ≡ test x y)

-- no farther to either side than 32 bits go
pub record IsMove (by : ℤ) : Type 0 where
  pub from : int_le (pos 0) (by +ℤ pos 2147483648) ≡ true
  pub to : int_le by (pos 2147483648) ≡ true

-- the square is one of the rectangle's, moved to the right by dx and up by dy
abbrev pub is_moved : Rect → ℤ → ℤ → ℕ → ℕ → Bool
is_moved e dx dy x y = holds_at e (pos x -ℤ dx) (pos y -ℤ dy)

-- the square, moved so, is one of the rectangle's
abbrev pub moves_into : Rect → ℤ → ℤ → ℕ → ℕ → Bool
moves_into e dx dy x y = holds_at e (pos x +ℤ dx) (pos y +ℤ dy)
