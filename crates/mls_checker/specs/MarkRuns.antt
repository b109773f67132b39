-- Runs of marked squares in the rows of a rectangle, and areas of rows that are alike.
use Rattle.std.specs.Prelude.{◌≡◌, ℕ, ◌+◌, ◌/◌, ◌^◌, ◌<◌, ◌≤◌, Bool, not, true, false, List, slice_index}
use Rattle.std.specs.List.{All}
use Rattle.mls_geom.specs.Rects.{Rect, IsRectangleIn}
use Rattle.mls_kinds.specs.KindSets.{has_bit}
use Rattle.mls_checker.specs.Marking.{SquareSet, squares_of}

-- the columns from one line up to another are a run of the row's squares: all of them, and neither the one before nor the one after
pub record IsRowRun (set : SquareSet) (y left right : ℕ) : Type 0 where
  pub some : left < right
  pub begins : (x : ℕ) → x + 1 ≡ left → set x y ≡ false
  pub all : (x : ℕ) → left ≤ x → x < right → set x y ≡ true
  pub ends : set right y ≡ false

-- it is the first one from a column on
pub record IsNextRun (set : SquareSet) (y from left right : ℕ) : Type 0 where
  pub after : from ≤ left
  pub none : (x : ℕ) → from ≤ x → x < left → set x y ≡ false
  pub some : left < right
  pub all : (x : ℕ) → left ≤ x → x < right → set x y ≡ true
  pub ends : set right y ≡ false

-- two rows have the same columns
abbrev pub AreAlike : SquareSet → ℕ → ℕ → Type 0
AreAlike set low row = (x : ℕ) → set x low ≡ set x row

-- the rows from one on, and before another, have just this run, and that other one hasn't
pub record IsRise (set : SquareSet) (left right bottom top : ℕ) : Type 0 where
  pub tall : bottom < top
  pub rows : (y : ℕ) → bottom ≤ y → y < top → IsRowRun set y left right
  pub ends : IsRowRun set top left right → ⊥

-- an area of the rectangle has just one run in its rows, and the row above hasn't this run
pub record IsStrip (rect : Rect) (set : SquareSet) (area : Rect) : Type 0 where
  pub inside : IsRectangleIn rect area
  pub rises : IsRise set area.left area.right area.bottom area.top

-- strips have all squares of the rows before this one, and those of this row before a column
pub record HaveBefore (rect : Rect) (set : SquareSet) (row from : ℕ) (areas : List Rect) : Type 0 where
  pub strips : All (IsStrip rect set) areas
  pub below : (x y : ℕ) → y < row → set x y ≡ true → squares_of areas x y ≡ true
  pub beside : (x : ℕ) → x < from → set x row ≡ true → squares_of areas x row ≡ true

-- ---- words by places that are had or not
-- a bit, or its opposite where those that are 0 are wanted
abbrev pub wanted_bit : Bool → Bool → Bool
wanted_bit true b = b
wanted_bit false b = not b

-- a word has 1 where the word of a place has the wanted bit
pub record IsWanted (has : Bool) (words : List ℕ) (place word : ℕ) : Type 0 where
  pub fits : word < 2 ^ 64
  pub bits : (k : ℕ) → k < 64 → has_bit word k ≡ wanted_bit has (has_bit (slice_index words (place / 64)) k)
