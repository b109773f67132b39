-- The lines between which all rows are alike.
use Rattle.std.specs.Prelude.{ℕ, ◌≤◌, List}
use Rattle.std.specs.List.{All, Contains}
use Rattle.std.specs.List.Sorted.{IsStrictlyIncreasing}
use Rattle.mls_geom.specs.Rects.{Rect}
use Rattle.mls_geom.specs.declared.piece.Piece.{Piece}

-- the line is the extent's bottom line, its top line, or one between them
abbrev pub IsLineOf : Rect → ℕ → Type 0
IsLineOf extent line = (extent.bottom ≤ line) × (line ≤ extent.top)

-- the lines at which the piece begins and ends are among these
abbrev pub HaveEndsOf : List ℕ → Piece → Type 0
HaveEndsOf lines piece = Contains lines piece.rect.bottom × Contains lines piece.rect.top

-- lines of the extent, among them its own ends and those of all pieces
pub record HaveEnds (extent : Rect) (pieces : List Piece) (lines : List ℕ) : Type 0 where
  pub within : All (IsLineOf extent) lines
  pub bottom : Contains lines extent.bottom
  pub top : Contains lines extent.top
  pub ends : All (HaveEndsOf lines) pieces

-- such lines, from the bottom up
pub record AreBandLines (extent : Rect) (pieces : List Piece) (lines : List ℕ) : Type 0 where
  pub ascending : IsStrictlyIncreasing lines
  pub members : HaveEnds extent pieces lines
