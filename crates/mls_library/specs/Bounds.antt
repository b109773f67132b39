-- The smallest rectangle round the squares of a layout that aren't space. This project's own.
use Rattle.std.specs.Prelude.{ℕ, ◌+◌, ◌-◌, ◌==◌, Bool, not, ◌&&◌, if◌then◌else◌, Option, Some, None, List, reverse}
use Rattle.std.specs.List.{list_any, prefix_len, range_with_len}
use Rattle.mls_geom.specs.Layouts.{Layout}
use Rattle.mls_geom.specs.Pictures.{columns, rows}
use Rattle.mls_geom.specs.Rects.{Rect, holds, joined}
use Rattle.mls_geom.specs.World.{world}
use Rattle.mls_geom.specs.declared.piece.Piece.{Piece}

-- ---- round the squares of a test
-- some square of the column passes the test
abbrev pub column_has : (ℕ → ℕ → Bool) → ℕ → Bool
column_has test x = list_any (λ y. test x y) (rows world)

-- some square of the row does
abbrev pub row_has : (ℕ → ℕ → Bool) → ℕ → Bool
row_has test y = list_any (λ x. test x y) (columns world)

-- the smallest rectangle round the squares of the world that pass the test, if there are any: the world without the columns on the left and on the
-- right, and the rows at the bottom and at the top, that have none
unfoldable pub bounds_of : (ℕ → ℕ → Bool) → Option Rect
bounds_of test =
    if list_any (row_has test) (rows world) then Some (record {
      left = world.left + prefix_len (λ x. not (column_has test x)) (columns world);
      bottom = world.bottom + prefix_len (λ y. not (row_has test y)) (rows world);
      right = world.right - prefix_len (λ x. not (column_has test x)) (reverse (columns world));
      top = world.top - prefix_len (λ y. not (row_has test y)) (reverse (rows world));
    })
    else None

-- ---- round a layout
-- some plane of the first ones has a square other than space here
abbrev pub has_paint : ℕ → Layout → ℕ → ℕ → Bool
has_paint planes layout x y = list_any (λ plane. not (layout plane x y == 0)) (range_with_len 0 planes)

-- the smallest rectangle round the squares of the first planes that aren't space, if there are any
abbrev pub painted_bounds : ℕ → Layout → Option Rect
painted_bounds planes layout = bounds_of (has_paint planes layout)

-- ---- round pieces
-- the square lies in one of the pieces that aren't space
abbrev pub are_painted : List Piece → ℕ → ℕ → Bool
are_painted pieces x y = list_any (λ piece. holds piece.rect x y && not (piece.kind == 0)) pieces

-- it lies in such a piece of one of the lists
abbrev pub any_painted : List (List Piece) → ℕ → ℕ → Bool
any_painted lists x y = list_any (λ pieces. are_painted pieces x y) lists

-- the smallest rectangle round both, where there may be only one of them or none
abbrev pub round_both : Option Rect → Option Rect → Option Rect
round_both None other = other
round_both (Some a) None = Some a
round_both (Some a) (Some b) = Some (joined a b)
