-- How many maximal strips a picture has, counted over its squares without making a strip: the squares that are the lower-left square of
-- their own strip. This project's own.
use Rattle.std.specs.Prelude.{ℕ, ◌+◌, ◌-◌, Bool, ◌&&◌, ◌||◌, not, ◌==◌, nat_lt}
use Rattle.std.specs.List.{prefix_len, range_with_len, count_by, sum_by}
use Rattle.mls_geom.specs.Rects.{Rect}
use Rattle.mls_geom.specs.Pictures.{Picture, columns, rows}

-- the square is the leftmost of its run
abbrev pub starts_run : Rect → Picture → ℕ → ℕ → Bool
starts_run extent picture x y = x == extent.left || not (picture (x - 1) y == picture x y)

-- the line at which the kind of the square first ends to its right
abbrev pub run_end : Rect → Picture → ℕ → ℕ → ℕ
run_end extent picture x y = x + prefix_len (λ z. picture z y == picture x y) (range_with_len x (extent.right - x))

-- the row below has a run of the same kind from x to the same end
abbrev pub goes_on_below : Rect → Picture → ℕ → ℕ → Bool
goes_on_below extent picture x y =
    nat_lt extent.bottom y && starts_run extent picture x (y - 1) && picture x (y - 1) == picture x y && run_end extent picture x (y - 1) == run_end extent picture x y

-- the square is the lower-left square of its own strip
abbrev pub is_corner : Rect → Picture → ℕ → ℕ → Bool
is_corner extent picture x y = starts_run extent picture x y && not (goes_on_below extent picture x y)

-- the number of strips
unfoldable pub tile_count : Rect → Picture → ℕ
tile_count extent picture = sum_by (λ y. count_by (λ x. is_corner extent picture x y) (columns extent)) (rows extent)
