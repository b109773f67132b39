-- The strips of a picture as one list, made from its squares alone. This project's own.
use Rattle.std.specs.Prelude.{ℕ, ◌+◌, ◌-◌, Bool, ◌&&◌, ◌==◌, List, map, filter}
use Rattle.std.specs.List.{flat_map, prefix_len, range_with_len}
use Rattle.mls_geom.specs.Rects.{Rect}
use Rattle.mls_geom.specs.Pictures.{Picture, columns, rows}
use Rattle.mls_geom.specs.TileCounts.{starts_run, run_end, is_corner}
use Rattle.mls_geom.specs.declared.piece.Piece.{Piece}

-- row z has a run from x of the same kind and to the same end as row y
abbrev pub has_run_of : Rect → Picture → ℕ → ℕ → ℕ → Bool
has_run_of extent picture x y z = starts_run extent picture x z && picture x z == picture x y && run_end extent picture x z == run_end extent picture x y

-- the first row from y on that has not
abbrev pub rows_end : Rect → Picture → ℕ → ℕ → ℕ
rows_end extent picture x y = y + prefix_len (λ z. has_run_of extent picture x y z) (range_with_len y (extent.top - y))

-- the strip of which (x, y) is the lower-left square
unfoldable pub strip_from : Rect → Picture → ℕ → ℕ → Piece
strip_from extent picture x y = record {
  rect = record { left = x; bottom = y; right = run_end extent picture x y; top = rows_end extent picture x y };
  kind = picture x y;
}

-- the strips of all squares that are the lower-left square of their own strip, by bottom and then left
unfoldable pub strips_of : Rect → Picture → List Piece
strips_of extent picture = flat_map (λ y. map (λ x. strip_from extent picture x y) (filter (λ x. is_corner extent picture x y) (columns extent))) (rows extent)
