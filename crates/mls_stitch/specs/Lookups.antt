-- How the tile beyond another is looked up. A stitch sees the squares in lines: columns where it leads to a side, rows where it leads up or down. The
-- stitches that lead down or to the left see them from the other end, so that all four see the same.
use Rattle.std.specs.Prelude.{◌≡◌, ℕ, ◌+◌, ◌-◌, ◌*◌, ◌≤◌, Bool, true, false, nat_le, IsTrue, List, length}
use Rattle.std.specs.List.{AllPairs, AllWithin}
use Rattle.mls_geom.specs.Rects.{Rect, Point, holds}
use Rattle.mls_stitch.specs.Stitches.{beyond}
use Rattle.mls_stitch.specs.declared.laid_tile.LaidTile.{LaidTile}
use Rattle.mls_stitch.specs.declared.stitch.Stitch.{Stitch}
use Rattle.mls_stitch.specs.declared.stitch.Stitch.TheVariants.{Lb, Bl, Tr, Rt}

-- the stitch that leads back over a side
abbrev pub back_of : Stitch → Stitch
back_of Lb = Rt
back_of Bl = Tr
back_of Tr = Bl
back_of Rt = Lb

-- a line of squares as a stitch sees it, and a place along that line
pub record Place : Type 0 where
  pub line : ℕ
  pub along : ℕ

-- a coordinate counted from the other end
abbrev pub from_end : ℕ → ℕ
from_end n = 4294967295 - n

-- the place of a square
abbrev pub place_of : Stitch → Point → Place
place_of Lb at = record { line = from_end at.y; along = from_end at.x }
place_of Bl at = record { line = from_end at.x; along = from_end at.y }
place_of Tr at = record { line = at.x; along = at.y }
place_of Rt at = record { line = at.y; along = at.x }

-- the first square of a rectangle on the line that it turns to the tiles whose stitch leads to it
abbrev pub first_square : Stitch → Rect → Point
first_square Lb rect = record { x = rect.right - 1; y = rect.top - 1 }
first_square Bl rect = record { x = rect.right - 1; y = rect.top - 1 }
first_square Tr rect = record { x = rect.left; y = rect.bottom }
first_square Rt rect = record { x = rect.left; y = rect.bottom }

-- where a rectangle begins for the tiles whose stitch leads to it, and where the square beyond it lies
abbrev pub start_of : Stitch → Rect → Place
start_of stitch rect = place_of stitch (first_square stitch rect)

abbrev pub place_beyond : Stitch → Rect → Place
place_beyond stitch rect = place_of stitch (beyond stitch rect)

-- as one number: by line, and then along it
abbrev pub rank_of : Place → ℕ
rank_of place = place.line * 4294967296 + place.along

abbrev pub is_up_to : Place → Place → Bool
is_up_to p q = nat_le (rank_of p) (rank_of q)

-- the tiles are in the order in which they begin
abbrev pub AreSortedFor : Stitch → List LaidTile → Type 0
AreSortedFor stitch = AllPairs (λ p q. IsTrue (is_up_to (start_of stitch p.piece.rect) (start_of stitch q.piece.rect)))

-- the stitch of the one tile is to lead to the other
abbrev pub leads_to : Stitch → LaidTile → LaidTile → Bool
leads_to stitch from to = holds to.piece.rect (beyond stitch from.piece.rect).x (beyond stitch from.piece.rect).y

-- the first tiles are those that begin at the square beyond the rectangle or before it
pub record BeginUpTo (stitch : Stitch) (rect : Rect) (entries : List LaidTile) (count : ℕ) : Type 0 where
  pub bound : count ≤ length entries
  pub before : AllWithin (λ entry. is_up_to (start_of stitch entry.piece.rect) (place_beyond stitch rect) ≡ true) entries 0 count
  pub after : AllWithin (λ entry. is_up_to (start_of stitch entry.piece.rect) (place_beyond stitch rect) ≡ false) entries count (length entries)
