-- Pictures that show one kind in a rectangle and round it, or bars. This project's own.
use Rattle.std.specs.Prelude.{◌≡◌, ℕ, ◌≤◌, true}
use Rattle.mls_geom.specs.Pictures.{Picture}
use Rattle.mls_geom.specs.Rects.{Rect, IsWithin, grown, holds}
use Rattle.mls_layout.specs.declared.likeness.Likeness.{Likeness}
use Rattle.mls_layout.specs.declared.likeness.Likeness.TheVariants.{OneKind, Columns, Rows}

-- the square in which a rectangle shows what it shows in this one, by its column and its row: its corner where it shows one kind, the lowest square of the column where it shows columns, and the leftmost one of the row where it shows rows
abbrev pub like_column : Likeness → Rect → ℕ → ℕ
like_column OneKind rect x = rect.left
like_column Columns rect x = x
like_column Rows rect x = rect.left

abbrev pub like_row : Likeness → Rect → ℕ → ℕ
like_row OneKind rect y = rect.bottom
like_row Columns rect y = rect.bottom
like_row Rows rect y = y

-- in the rectangle, and at most h squares away from it, the picture shows one kind, or one kind in each column, or one in each row
abbrev pub ShowsAlike : Likeness → ℕ → Rect → Picture → Type 0
ShowsAlike likeness h rect picture = (x y : ℕ) → holds (grown h rect) x y ≡ true → picture x y ≡ picture (like_column likeness rect x) (like_row likeness rect y)

-- a rectangle spans another one: for columns from its bottom to its top, for rows from its left to its right, and for one kind both
abbrev pub Spans : Likeness → Rect → Rect → Type 0
Spans OneKind outer rect = IsWithin outer rect
Spans Columns outer rect = (outer.bottom ≤ rect.bottom) × (rect.top ≤ outer.top)
Spans Rows outer rect = (outer.left ≤ rect.left) × (rect.right ≤ outer.right)
