-- Split and join (Ousterhout 1984): a line cuts a tile into two of its kind, or two tiles of one kind that share a whole side become one.
use Rattle.std.specs.Prelude.{◌≡◌, ℕ, ◌<◌, List, [], ◌∷◌, Some, None}
use Rattle.mls_geom.specs.declared.piece.Piece.{Piece}
use Rattle.mls_tilepool.specs.Pools.{tile_in}
use Rattle.mls_tilepool.specs.declared.tile.Tile.{Tile}
use Rattle.mls_stitch.specs.Replacements.{Replaces}
use Rattle.mls_stitch.specs.Tilings.{block_at, shown}
use Rattle.mls_stitch.specs.declared.split.Axis.{Axis}
use Rattle.mls_stitch.specs.declared.split.Axis.TheVariants.{X, Y}

-- the part of a block to the left of the line x, and the part to its right
abbrev pub left_part : ℕ → Piece → Piece
left_part x block = record { rect = record { left = block.rect.left; bottom = block.rect.bottom; right = x; top = block.rect.top }; kind = block.kind }

abbrev pub right_part : ℕ → Piece → Piece
right_part x block = record { rect = record { left = x; bottom = block.rect.bottom; right = block.rect.right; top = block.rect.top }; kind = block.kind }

-- the part below the line y, and the part above it
abbrev pub lower_of : ℕ → Piece → Piece
lower_of y block = record { rect = record { left = block.rect.left; bottom = block.rect.bottom; right = block.rect.right; top = y }; kind = block.kind }

abbrev pub upper_of : ℕ → Piece → Piece
upper_of y block = record { rect = record { left = block.rect.left; bottom = y; right = block.rect.right; top = block.rect.top }; kind = block.kind }

-- a block and the one to its right, as one block
abbrev pub joined_x : Piece → Piece → Piece
joined_x a b = record { rect = record { left = a.rect.left; bottom = a.rect.bottom; right = b.rect.right; top = a.rect.top }; kind = a.kind }

-- a block and the one above it, as one block
abbrev pub joined_y : Piece → Piece → Piece
joined_y a b = record { rect = record { left = a.rect.left; bottom = a.rect.bottom; right = a.rect.right; top = b.rect.top }; kind = a.kind }

-- the second block begins where the first one ends, from the same bottom to the same top, and has its kind
pub record JoinInX (a b : Piece) : Type 0 where
  pub meet : b.rect.left ≡ a.rect.right
  pub bottoms : b.rect.bottom ≡ a.rect.bottom
  pub tops : b.rect.top ≡ a.rect.top
  pub kinds : b.kind ≡ a.kind

-- the second block begins where the first one ends, from the same left side to the same right side, and has its kind
pub record JoinInY (a b : Piece) : Type 0 where
  pub meet : b.rect.bottom ≡ a.rect.top
  pub lefts : b.rect.left ≡ a.rect.left
  pub rights : b.rect.right ≡ a.rect.right
  pub kinds : b.kind ≡ a.kind

-- the same of either axis: the line goes through the block
abbrev pub IsCutAt : Axis → ℕ → Piece → Type 0
IsCutAt X x block = (block.rect.left < x) × (x < block.rect.right)
IsCutAt Y y block = (block.rect.bottom < y) × (y < block.rect.top)

-- the part before the line, and the part behind it
abbrev pub first_part : Axis → ℕ → Piece → Piece
first_part X = left_part
first_part Y = lower_of

abbrev pub second_part : Axis → ℕ → Piece → Piece
second_part X = right_part
second_part Y = upper_of

-- two blocks that share a whole side, and both as one
abbrev pub JoinAlong : Axis → Piece → Piece → Type 0
JoinAlong X = JoinInX
JoinAlong Y = JoinInY

abbrev pub joined_along : Axis → Piece → Piece → Piece
joined_along X = joined_x
joined_along Y = joined_y

-- the tile keeps its name for the first part, a new one has the second, and the picture stays
pub record Splits (old new : List (ℕ × Tile)) (tile id : ℕ) (first second : Piece) : Type 0 where
  pub replaced : Replaces old new (tile ∷ []) (first ∷ second ∷ [])
  pub first_kept : block_at new tile ≡ Some first
  pub second_new : block_at new id ≡ Some second
  pub unused : tile_in old id ≡ None
  pub picture : shown new ≡ shown old

-- the first tile keeps its name for both, the second one is gone, and the picture stays
pub record Joins (old new : List (ℕ × Tile)) (first second : ℕ) (whole : Piece) : Type 0 where
  pub replaced : Replaces old new (first ∷ second ∷ []) (whole ∷ [])
  pub joined : block_at new first ≡ Some whole
  pub gone : tile_in new second ≡ None
  pub picture : shown new ≡ shown old
