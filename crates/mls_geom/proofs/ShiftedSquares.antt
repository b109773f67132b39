-- Squares of rectangles that are shifted or deepened in a direction.
use Rattle.mls_geom.proofs.Common.{◌≡◌, ℕ, ◌+◌, ◌-◌, ◌<◌, ◌≤◌, true, Bool, nat_lt, refl, arith, nat_tests}
use Rattle.mls_geom.proofs.Definitions.{back, deepened, shifted, Rect, Point, holds, Direction, Right, Up, Left, Down}
use Rattle.mls_geom.specs.Directions.{moved}
use Rattle.mls_geom.proofs.Holds.{holds_between, between_holds}

-- the square at a column and a row
abbrev pub at : ℕ → ℕ → Point
at x y = record { x = x; y = y }

pub same_square : (x y a b : ℕ) → x ≡ a → y ≡ b → at x y ≡ at a b
same_square x y a b columns rows = rw (columns, rows) refl

-- the square lies in the rectangle
abbrev pub has : Rect → Point → Bool
has e p = holds e p.x p.y

pub positive : (d i : ℕ) → i < d → nat_lt 0 d ≡ true
positive d i few = grind (arith, nat_tests)

pub positive_lt : (d : ℕ) → nat_lt 0 d ≡ true → 0 < d
positive_lt d some = grind (arith, nat_tests)

-- ---- shifted
-- n steps on from a square of the rectangle is one of the shifted rectangle
pub shifted_in : (direction : Direction) (n : ℕ) (e : Rect) (x y : ℕ) → n ≤ x → n ≤ y → holds e x y ≡ true → has (shifted direction n e) (moved direction n (at x y)) ≡ true
shifted_in Right n e x y left below here = grind (arith, nat_tests)
shifted_in Up n e x y left below here = grind (arith, nat_tests)
shifted_in Left n e x y left below here = grind (arith, nat_tests)
shifted_in Down n e x y left below here = grind (arith, nat_tests)

-- n steps back from a square of the shifted rectangle is one of the rectangle
pub shifted_out : (direction : Direction) (n : ℕ) (e : Rect) (x y : ℕ) → holds (shifted direction n e) x y ≡ true → has e (moved (back direction) n (at x y)) ≡ true
shifted_out Right n e x y here = grind (arith, nat_tests)
shifted_out Up n e x y here = grind (arith, nat_tests)
shifted_out Left n e x y here = grind (arith, nat_tests)
shifted_out Down n e x y here = grind (arith, nat_tests)

-- n steps on from a square of the rectangle shifted back is one of the rectangle
pub shifted_back_out : (direction : Direction) (n : ℕ) (e : Rect) (x y : ℕ) → holds (shifted (back direction) n e) x y ≡ true → has e (moved direction n (at x y)) ≡ true
shifted_back_out Right n e x y here = shifted_out Left n e x y here
shifted_back_out Up n e x y here = shifted_out Down n e x y here
shifted_back_out Left n e x y here = shifted_out Right n e x y here
shifted_back_out Down n e x y here = shifted_out Up n e x y here

-- a square that lies n steps on from one of the rectangle is one of the shifted rectangle
pub in_shifted : (direction : Direction) (n : ℕ) (e : Rect) (x y : ℕ) → n ≤ x → n ≤ y → has e (moved (back direction) n (at x y)) ≡ true → holds (shifted direction n e) x y ≡ true
in_shifted Right n e x y left below there = grind (arith, nat_tests)
in_shifted Up n e x y left below there = grind (arith, nat_tests)
in_shifted Left n e x y left below there = grind (arith, nat_tests)
in_shifted Down n e x y left below there = grind (arith, nat_tests)

-- a shift by one square lowers the lower lines by one at most
pub shifted_low : (direction : Direction) (m : ℕ) (e : Rect) → m + 1 ≤ e.left → m + 1 ≤ e.bottom → (m ≤ (shifted direction 1 e).left) × (m ≤ (shifted direction 1 e).bottom)
shifted_low Right m e left below = (omega arith, omega arith)
shifted_low Up m e left below = (omega arith, omega arith)
shifted_low Left m e left below = (omega arith, omega arith)
shifted_low Down m e left below = (omega arith, omega arith)

-- and a step to another square its column and its row
pub moved_low : (direction : Direction) (m x y : ℕ) → m + 1 ≤ x → m + 1 ≤ y → (m ≤ (moved direction 1 (at x y)).x) × (m ≤ (moved direction 1 (at x y)).y)
moved_low Right m x y left below = (omega arith, omega arith)
moved_low Up m x y left below = (omega arith, omega arith)
moved_low Left m x y left below = (omega arith, omega arith)
moved_low Down m x y left below = (omega arith, omega arith)

-- ---- deepened
-- a square lies in the deepened rectangle where one of the rectangle is at most n steps back
pub deepened_in : (direction : Direction) (n i : ℕ) (e : Rect) (x y : ℕ) → i ≤ n → has e (moved (back direction) i (at x y)) ≡ true → holds (deepened direction n e) x y ≡ true
deepened_in Right n i e x y few there = grind (arith, nat_tests)
deepened_in Up n i e x y few there = grind (arith, nat_tests)
deepened_in Left n i e x y few there = grind (arith, nat_tests)
deepened_in Down n i e x y few there = grind (arith, nat_tests)

-- from each square of the deepened rectangle, at most n steps back is one of the rectangle, if it has any
pub deepened_out :
    (direction : Direction) (n : ℕ) (e : Rect) (x y : ℕ) → e.left < e.right → e.bottom < e.top → holds (deepened direction n e) x y ≡ true
    → (i : ℕ) × (i ≤ n) × (has e (moved (back direction) i (at x y)) ≡ true)
deepened_out Right n e x y wide tall here =
    let lines = holds_between (deepened Right n e) x y here in
    let i = x + 1 - e.right in (i, omega arith, between_holds e (x - i) y (omega arith) (omega arith) (omega arith) (omega arith))
deepened_out Up n e x y wide tall here =
    let lines = holds_between (deepened Up n e) x y here in
    let i = y + 1 - e.top in (i, omega arith, between_holds e x (y - i) (omega arith) (omega arith) (omega arith) (omega arith))
deepened_out Left n e x y wide tall here =
    let lines = holds_between (deepened Left n e) x y here in
    let i = e.left - x in (i, omega arith, between_holds e (x + i) y (omega arith) (omega arith) (omega arith) (omega arith))
deepened_out Down n e x y wide tall here =
    let lines = holds_between (deepened Down n e) x y here in
    let i = e.bottom - y in (i, omega arith, between_holds e x (y + i) (omega arith) (omega arith) (omega arith) (omega arith))
