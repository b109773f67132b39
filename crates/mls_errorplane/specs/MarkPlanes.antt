-- Error planes (Taylor and Ousterhout 1984: errors are kept with the layout, as tiles of a plane of their own). A square of kind 0 isn't marked, and one
-- of any other kind is.
use Rattle.std.specs.Prelude.{ℕ, ◌+◌, Bool, not, ◌==◌, if◌then◌else◌, count_by, sum_by}
use Rattle.mls_errorplane.specs.Common.{Picture, Rect, SquareSet, columns, holds, rows, runs_of_rows}

-- the square is marked
abbrev pub is_marked : Picture → ℕ → ℕ → Bool
is_marked picture x y = not (picture x y == 0)

-- the picture in which the squares of the rectangle are marked as the set says, and all others are as they were
abbrev pub remarked : Picture → Rect → SquareSet → Picture
remarked below rect set x y = if holds rect x y then (if set x y then 1 else 0) else below x y

-- how many pieces it takes at most to paint marks in the squares of a rectangle: one for each run of its rows, and one of kind 0
abbrev pub most_pieces : Rect → ℕ
most_pieces rect = 1 + runs_of_rows rect

-- the number of marked squares, counted square by square
unfoldable pub marked_count : Rect → Picture → ℕ
marked_count extent picture = sum_by (λ y. count_by (λ x. is_marked picture x y) (columns extent)) (rows extent)
