-- The slots of a row. Lines cut it into slots, each from one line to the next; slot 0 is the leftmost.
use Rattle.std.specs.Prelude.{◌≡◌, ℕ, ◌+◌, ◌-◌, ◌<◌, ◌≤◌, Option, None, List, length, get_or, slice_get, slice_index, IfSome, IsSomeAnd}
use Rattle.std.specs.List.{All, Contains}
use Rattle.std.specs.Option.{unwrap_or}
use Rattle.std.specs.List.Sorted.{IsStrictlyIncreasing}
use Rattle.mls_geom.specs.Rects.{Rect}
use Rattle.mls_geom.specs.Locality.{uncovered}
use Rattle.mls_geom.specs.Pictures.{Picture}
use Rattle.mls_geom.specs.declared.piece.Piece.{Piece}

-- lines from left to right that cut the extent: the first is its left line, and the last its right line
pub record AreCuts (extent : Rect) (lines : List ℕ) : Type 0 where
  pub ascending : IsStrictlyIncreasing lines
  pub some : 0 < length lines
  pub first : slice_index lines 0 ≡ extent.left
  pub last : slice_index lines (length lines - 1) ≡ extent.right

-- the rectangle reaches from one of the lines to another
pub record IsBetweenLines (lines : List ℕ) (rect : Rect) : Type 0 where
  pub left : Contains lines rect.left
  pub right : Contains lines rect.right

-- each of the pieces that the indices name reaches from one of the lines to another
abbrev pub AreBetweenLines : List ℕ → List Piece → List ℕ → Type 0
AreBetweenLines lines pieces indices = All (λ i. IsSomeAnd (slice_get pieces i) (λ piece. IsBetweenLines lines piece.rect)) indices

-- the kind that a slot shows; one of no piece is uncovered
abbrev pub shown : List (Option ℕ) → ℕ → ℕ
shown kinds slot = unwrap_or (get_or kinds slot None) uncovered

-- the kinds of slots are bytes
abbrev pub HaveBytes : List (Option ℕ) → Type 0
HaveBytes kinds = (slot : ℕ) → IfSome (get_or kinds slot None) (λ kind. kind < uncovered)

-- for each slot of row y the kind of all its squares
pub record AreSlotKinds (picture : Picture) (y : ℕ) (lines : List ℕ) (kinds : List (Option ℕ)) : Type 0 where
  pub count : length lines ≡ length kinds + 1
  pub each : (slot x : ℕ) → slot < length kinds → slice_index lines slot ≤ x → x < slice_index lines (slot + 1) → picture x y ≡ shown kinds slot
