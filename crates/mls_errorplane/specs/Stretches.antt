-- Pieces that are checked as one, since each plane shows the same round all of them as round pieces whose marks are right. This project's own.
use Rattle.std.specs.Prelude.{◌≡◌, ◌+◌, ◌<◌, ◌≤◌, ℕ, zero, suc, nat_lt, Bool, ◌&&◌, ◌||◌, true, false, List, [], ◌∷◌, ◌++◌, Option, option_to_list}
use Rattle.std.specs.Option.{IsSomeAnd}
use Rattle.mls_errorplane.specs.Common.{EdgeRule, IsRectangleIn, Layout, Likeness, Rect, ShowsAlike, SquareSet, forbidden, halo_of, holds, like_column, like_row}
use Rattle.mls_errorplane.specs.DirtyLists.{dropped, first_piece_of, piece_side}
use Rattle.mls_errorplane.specs.declared.checked.Checked.{Checked}
use Rattle.mls_errorplane.specs.ErrorPlanes.{exceeds}
use Rattle.mls_errorplane.specs.declared.stretch.Stretch.{Stretch}
use Rattle.mls_errorplane.specs.declared.stretches.Trial.{Trial}

-- the list without its next pieces, this many of them and all in the rectangle, is the other list
abbrev pub DropsIn : Rect → ℕ → List Rect → List Rect → Type 0
DropsIn rect zero old new = new ≡ old
DropsIn rect (suc count) old new = (mid : List Rect) × DropsIn rect count old mid × IsSomeAnd (first_piece_of mid) (IsRectangleIn rect) × (new ≡ dropped mid)

-- all squares below the row low, and in the rows from there to high those left of the column cut
pub record Stair : Type 0 where
  pub cut : ℕ
  pub low : ℕ
  pub high : ℕ

abbrev pub in_stair : Stair → ℕ → ℕ → Bool
in_stair stair x y = nat_lt y stair.low || (nat_lt y stair.high && nat_lt x stair.cut)

-- the piece lies in the rectangle, and there the stair after it has the squares of the one before and those of the piece; no more of its rows are cut than a piece has
pub record Takes (rect : Rect) (before after : Stair) (piece : Rect) : Type 0 where
  pub inside : IsRectangleIn rect piece
  pub up : after.low ≤ after.high
  pub few : after.high ≤ after.low + piece_side
  pub squares : (x y : ℕ) → holds rect x y ≡ true → in_stair after x y ≡ (in_stair before x y || holds piece x y)

-- the list without its next pieces, this many of them and all in the rectangle, is the other list; the squares dropped so far are after each piece those of a stair there, and after the last those of this one
abbrev pub DropsTo : Rect → Stair → ℕ → List Rect → List Rect → Type 0
DropsTo rect stair zero old new = (new ≡ old) × ((x y : ℕ) → holds rect x y ≡ true → in_stair stair x y ≡ false)
DropsTo rect stair (suc count) old new =
    (mid : List Rect) × (before : Stair) × DropsTo rect before count old mid × IsSomeAnd (first_piece_of mid) (Takes rect before stair) × (new ≡ dropped mid)

-- and they are all squares of the rectangle
abbrev pub DropsAll : Rect → ℕ → List Rect → List Rect → Type 0
DropsAll rect count old new = (stair : Stair) × DropsTo rect stair count old new × ((x y : ℕ) → holds rect x y ≡ true → in_stair stair x y ≡ true)

-- what is left of the first area, if anything is, in its place
abbrev pub with_rest : Option Rect → List Rect → List Rect
with_rest rest [] = []
with_rest rest (first ∷ others) = option_to_list rest ++ others

-- the pieces of the stretch, at least one, are the next ones of the list
abbrev pub IsNext : List Rect → Stretch → Type 0
IsNext areas stretch = (0 < stretch.pieces) × DropsAll stretch.rect stretch.pieces areas (with_rest stretch.rest areas)

-- as far as the rules reach round the rectangle each plane shows one kind, or columns, or rows
abbrev pub IsAlike : Likeness → List EdgeRule → Layout → Rect → Type 0
IsAlike likeness rules layout rect = (plane : ℕ) → ShowsAlike likeness (halo_of rules) rect (layout plane)

-- a rectangle has the squares that show what those of another one show
abbrev pub Tells : Likeness → Rect → Rect → Type 0
Tells likeness from rect = (x y : ℕ) → holds rect x y ≡ true → holds from (like_column likeness from x) (like_row likeness from y) ≡ true

-- in the rectangle the marks are exactly the squares that the rules forbid
abbrev pub AreRight : List EdgeRule → Layout → SquareSet → Rect → Type 0
AreRight rules layout marks rect = (x y : ℕ) → holds rect x y ≡ true → marks x y ≡ forbidden rules layout x y

-- they are so in all four rectangles
abbrev pub AreRightIn : List EdgeRule → Layout → SquareSet → Checked → Type 0
AreRightIn rules layout marks checked = AreRight rules layout marks checked.last × AreRight rules layout marks checked.row × AreRight rules layout marks checked.block
    × AreRight rules layout marks checked.largest

-- the pieces of the stretch are the next ones of the old list, which is the new one without them, and where the marks are right in checked pieces, they are so in these
pub record DropsKnown (checked : Checked) (old new : List Rect) (stretch : Stretch) : Type 0 where
  pub some : 0 < stretch.pieces
  pub drops : DropsAll stretch.rect stretch.pieces old new
  pub right : (rules : List EdgeRule) (layout : Layout) (marks : SquareSet) → AreRightIn rules layout marks checked → AreRight rules layout marks stretch.rect

-- the marks are within the limit that a stretch is tried with, and right in the pieces that were checked last
pub record AreSound (rules : List EdgeRule) (layout : Layout) (trial : Trial) (marks : SquareSet) : Type 0 where
  pub fits : exceeds trial.limit marks ≡ false
  pub right : AreRightIn rules layout marks trial.checked
