-- What is known of which squares of a layout the rules forbid: some areas await checking, and outside these the marks are right (after Taylor and
-- Ousterhout 1984: an incremental checker).
use Rattle.std.specs.Prelude.{◌≡◌, ℕ, Bool, true, false, if◌then◌else◌, List, [], ◌∷◌, Option, Some, None}
use Rattle.std.specs.List.{list_any}
use Rattle.mls_errorplane.specs.Common.{EdgeRule, Layout, Rect, SquareSet, columns, empty_picture, forbidden, halo_of, holds, no_squares, rows, squares_of, world}
use Rattle.mls_errorplane.specs.DirtyLists.{added, dropped, first_piece_of, zone_round}

-- the marked squares, and the areas that await checking
pub record Checking : Type 0 where
  pub marks : SquareSet
  pub dirty : List Rect

-- the rules forbid some square of the world
unfoldable pub forbids_any : List EdgeRule → Layout → Bool
forbids_any rules layout = list_any (λ y. list_any (λ x. forbidden rules layout x y) (columns world)) (rows world)

-- how checking begins, with an empty layout: nothing is marked, and the whole world awaits checking where the rules forbid a square of it
abbrev pub opening_checking : List EdgeRule → Checking
opening_checking rules = record { marks = no_squares; dirty = if forbids_any rules (λ plane. empty_picture) then world ∷ [] else [] }

-- outside the areas the marks are exactly the squares that the rules forbid
abbrev pub IsChecked : List EdgeRule → Layout → Checking → Type 0
IsChecked rules layout checking =
    (x y : ℕ) → holds world x y ≡ true → squares_of checking.dirty x y ≡ false → checking.marks x y ≡ forbidden rules layout x y

-- in the piece the marks become those squares, and elsewhere they stay
abbrev pub checked_marks : List EdgeRule → Layout → Option Rect → SquareSet → SquareSet
checked_marks rules layout None marks x y = marks x y
checked_marks rules layout (Some piece) marks x y = if holds piece x y then forbidden rules layout x y else marks x y

-- the first piece is checked, and awaits checking no longer
abbrev pub check_step : List EdgeRule → Layout → Checking → Checking
check_step rules layout checking = record {
  marks = checked_marks rules layout (first_piece_of checking.dirty) checking.marks;
  dirty = dropped checking.dirty;
}

-- the squares of the rectangle, and those that the rules can tell from them, await checking
abbrev pub dirtied : List EdgeRule → Rect → Checking → Checking
dirtied rules rect checking = record checking { dirty = added checking.dirty (zone_round (halo_of rules) rect) }
