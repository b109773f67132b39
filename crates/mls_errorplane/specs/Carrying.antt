-- Marks that are carried from a rectangle to another one, in which the layout shows the same. This project's own.
use Rattle.std.specs.Prelude.{◌≡◌, ◌+◌, ◌*◌, ◌<◌, ◌≤◌, ℕ, max, min, Bool, true, false}
use Rattle.mls_errorplane.specs.Common.{LaidTile, Likeness, Picture, Piece, Rect, Spans, SquareSet, holds, like_column, like_row, tile_count, world}
use Rattle.mls_errorplane.specs.DirtyLists.{piece_side}
use Rattle.mls_errorplane.specs.ErrorPlanes.{marks_picture}
use Rattle.mls_errorplane.specs.MarkPlanes.{is_marked}
use Rattle.mls_layout.specs.declared.likeness.Likeness.TheVariants.{OneKind, Columns, Rows}

-- the set that has a square where another one has the square in which a rectangle shows what it shows in this one
abbrev pub likened : Likeness → Rect → SquareSet → SquareSet
likened likeness from set x y = set (like_column likeness from x) (like_row likeness from y)

-- in the rectangle the marks are as another one tells, and elsewhere as they were
pub record AreCarried (likeness : Likeness) (from rect : Rect) (old new : SquareSet) : Type 0 where
  pub there : (x y : ℕ) → holds rect x y ≡ true → new x y ≡ likened likeness from old x y
  pub elsewhere : (x y : ℕ) → holds rect x y ≡ false → new x y ≡ old x y

-- in all rows of the rectangle the marks are those of its lowest row, from one side of the world to the other
abbrev pub GoUp : Rect → SquareSet → Type 0
GoUp rect marks = (x y : ℕ) → holds (record world { bottom = rect.bottom; top = rect.top }) x y ≡ true → marks x y ≡ marks x rect.bottom

-- the tiles of the marks after the rectangle is checked, those of the marks before in the rows from its bottom on, and two for each row of a piece, or two where the marks before and after go up, are together within the limit
pub record AreFew (limit : ℕ) (rect : Rect) (marks after : SquareSet) : Type 0 where
  pub rows : ℕ
  pub some : 1 ≤ rows
  pub go_up : rows < piece_side → GoUp rect marks × GoUp rect after
  pub few : tile_count world (marks_picture after) + tile_count (record world { bottom = rect.bottom }) (marks_picture marks) + 2 * rows ≤ limit

-- what is carried by this likeness is one mark in each column of the rectangle
abbrev pub carries_up : Likeness → Bool
carries_up OneKind = true
carries_up Columns = true
carries_up Rows = false

-- the bar begins above the rectangle's rows, or has them all
abbrev pub RunsThrough : Rect → Rect → Type 0
RunsThrough rect bar = bar.bottom < rect.top → Spans Columns bar rect

-- with so many tiles after marks are carried on to the rectangle they are few enough
pub record LeavesRoom (limit : ℕ) (likeness : Likeness) (rect : Rect) (picture : Picture) (most : ℕ) : Type 0 where
  pub rows : ℕ
  pub some : 1 ≤ rows
  pub go_up : rows < piece_side → GoUp rect (is_marked picture) × (carries_up likeness ≡ true)
  pub few : most + tile_count (record world { bottom = rect.bottom }) picture + 2 * rows ≤ limit

-- the squares of a rectangle that show what those of another one do: its lower left square, its lowest row, or its leftmost column
abbrev pub edge_of : Likeness → Rect → Rect → Rect
edge_of OneKind from rect = record { left = from.left; bottom = from.bottom; right = from.left + 1; top = from.bottom + 1 }
edge_of Columns from rect = record { left = rect.left; bottom = from.bottom; right = rect.right; top = from.bottom + 1 }
edge_of Rows from rect = record { left = from.left; bottom = rect.bottom; right = from.left + 1; top = rect.top }

-- the squares of a rectangle that show what a tile's squares do: all, those of its columns, or those of its rows
abbrev pub part_like : Likeness → Rect → Rect → Rect
part_like OneKind tile rect = rect
part_like Columns tile rect = record rect { left = max tile.left rect.left; right = min tile.right rect.right }
part_like Rows tile rect = record rect { bottom = max tile.bottom rect.bottom; top = min tile.top rect.top }

-- the piece that gives them the tile's kind
abbrev pub piece_like : Likeness → Rect → LaidTile → Piece
piece_like likeness rect tile = record { rect = part_like likeness tile.piece.rect rect; kind = tile.piece.kind }
