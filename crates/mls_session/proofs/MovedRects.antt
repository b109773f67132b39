-- Moved rectangles, and their squares.
use Rattle.std.proofs.Common.{◌≡◌, Bool, true, false, ℕ, ℤ, to_z, of_z, pos, negsuc, ◌-◌, ◌<◌, ◌≤◌, ◌+ℤ◌, ◌-ℤ◌, ◌≤ℤ◌, ◌<ℤ◌, ◌&&◌, ◌||◌, if◌then◌else◌, nat_le, nat_lt, Option, Some, None, Result, Ok, Err, inl, inr, ◌⊎◌, refl, sym, ap, ◌∙◌, subst, arith, FitsSigned, int_le, int_lt, nat_abs}
use Rattle.std.specs.Int.{saturate_signed, w32}
use Rattle.std.specs.Result.{result_ok}
use Rattle.std.proofs.Math.Bool.{and-false}
use Rattle.std.proofs.lemmas.Bool.{cases_Bool, cases_lt, or_left, or_parts, or_right}
use Rattle.std.proofs.lemmas.Bool.Decides.{nat_tests}
use Rattle.std.proofs.lemmas.Int.{ints, to_z-of_z}
use Rattle.std.proofs.lemmas.Option.{same_Some}
use Rattle.mls_session.proofs.Common.{Empty, IsRectangleIn, Outside, Rect, RectFault, coordinate_of, holds, is_outside, moved_line, moved_rect, or_none, origin, rect_of, world, world_has}
use Rattle.mls_geom.proofs.Holds.{between_holds, holds_between}

-- ---- lines
-- the world has no line at this coordinate, counted as the program does
abbrev pub is_beyond : ℤ → Bool
is_beyond z = int_lt z (pos 3145728) || int_lt (pos 5242880) z

is_outside-moved_line : (line : ℕ) (z : ℤ) → is_outside (moved_line line z) ≡ is_beyond (pos line +ℤ z)
unfolding is_outside
is_outside-moved_line line z =
    let back : moved_line line z +ℤ pos origin ≡ pos line +ℤ z = omega (arith, ints) in
    ap is_beyond back

coordinate_of-moved_line : (line : ℕ) (z : ℤ) → coordinate_of (moved_line line z) ≡ nat_abs (pos line +ℤ z)
unfolding coordinate_of
coordinate_of-moved_line line z =
    let back : moved_line line z +ℤ pos origin ≡ pos line +ℤ z = omega (arith, ints) in
    ap nat_abs back

in_order : (low high : ℕ) (z : ℤ) → low < high → int_le (moved_line high z) (moved_line low z) ≡ false
in_order low high z below = grind (arith, ints)

-- lines that fit their type are those that are passed
pub rect_of-fits :
    (left bottom right top : ℤ) → FitsSigned w32 left → FitsSigned w32 bottom → FitsSigned w32 right → FitsSigned w32 top
    → rect_of (to_z w32 (of_z w32 left)) (to_z w32 (of_z w32 bottom)) (to_z w32 (of_z w32 right)) (to_z w32 (of_z w32 top)) ≡ rect_of left bottom right top
rect_of-fits left bottom right top l b r t = rw (to_z-of_z w32 left l, to_z-of_z w32 bottom b, to_z-of_z w32 right r, to_z-of_z w32 top t) refl

-- ---- what moving a rectangle returns
-- the lines of the rectangle, moved
abbrev pub lines_moved : Rect → ℤ → ℤ → Rect
lines_moved e dx dy = record {
  left = nat_abs (pos e.left +ℤ dx);
  bottom = nat_abs (pos e.bottom +ℤ dy);
  right = nat_abs (pos e.right +ℤ dx);
  top = nat_abs (pos e.top +ℤ dy);
}

-- one of them is no line of the world
abbrev pub goes_beyond : Rect → ℤ → ℤ → Bool
goes_beyond e dx dy = is_beyond (pos e.left +ℤ dx) || is_beyond (pos e.bottom +ℤ dy) || is_beyond (pos e.right +ℤ dx) || is_beyond (pos e.top +ℤ dy)

choose : (a b c : Bool) (s : Rect) → a ≡ false → b ≡ false → or_none (if a || b then Err Empty else (if c then Err Outside else Ok s)) ≡ (if c then None else Some s)
choose true b c s first second = absurd (cc first)
choose false true c s first second = absurd (cc second)
choose false false true s first second = refl
choose false false false s first second = refl

pub moved_rect-is : (e : Rect) (dx dy : ℤ) → e.left < e.right → e.bottom < e.top → moved_rect e dx dy ≡ (if goes_beyond e dx dy then None else Some (lines_moved e dx dy))
unfolding moved_rect rect_of
moved_rect-is e dx dy wide tall =
    choose (int_le (moved_line e.right dx) (moved_line e.left dx)) (int_le (moved_line e.top dy) (moved_line e.bottom dy)) _ _ (in_order e.left e.right dx wide)
    (in_order e.bottom e.top dy tall)
    ∙ rw (
      is_outside-moved_line e.left dx,
      is_outside-moved_line e.bottom dy,
      is_outside-moved_line e.right dx,
      is_outside-moved_line e.top dy,
      coordinate_of-moved_line e.left dx,
      coordinate_of-moved_line e.bottom dy,
      coordinate_of-moved_line e.right dx,
      coordinate_of-moved_line e.top dy,
    ) refl

-- ---- a rectangle that stays in the world
-- the rectangle is the other one, moved, and lies in the world
pub record IsMoved (e r : Rect) (dx dy : ℤ) : Type 0 where
  pub left : pos r.left ≡ pos e.left +ℤ dx
  pub bottom : pos r.bottom ≡ pos e.bottom +ℤ dy
  pub right : pos r.right ≡ pos e.right +ℤ dx
  pub top : pos r.top ≡ pos e.top +ℤ dy
  pub legal : IsRectangleIn world r

within : (z : ℤ) → is_beyond z ≡ false → (pos (nat_abs z) ≡ z) × (3145728 ≤ nat_abs z) × (nat_abs z ≤ 5242880)
within (pos n) h = (refl, grind (arith, ints, nat_tests), grind (arith, ints, nat_tests))
within (negsuc n) h = absurd (cc h)

kept : (b : Bool) (s r : Rect) → (if b then None else Some s) ≡ Some r → (b ≡ false) × (s ≡ r)
kept true s r h = absurd (cc h)
kept false s r h = (refl, same_Some s r h)

lost : (b : Bool) (s : Rect) → (if b then None else Some s) ≡ None → b ≡ true
lost true s h = refl
lost false s h = absurd (cc h)

pub IsMoved-moved_rect : (e r : Rect) (dx dy : ℤ) → e.left < e.right → e.bottom < e.top → moved_rect e dx dy ≡ Some r → IsMoved e r dx dy
IsMoved-moved_rect e r dx dy wide tall is =
    let stays = kept (goes_beyond e dx dy) (lines_moved e dx dy) r (sym (moved_rect-is e dx dy wide tall) ∙ is) in
    let three = or_parts (is_beyond (pos e.left +ℤ dx) || is_beyond (pos e.bottom +ℤ dy) || is_beyond (pos e.right +ℤ dx)) (is_beyond (pos e.top +ℤ dy)) stays.0 in
    let two = or_parts (is_beyond (pos e.left +ℤ dx) || is_beyond (pos e.bottom +ℤ dy)) (is_beyond (pos e.right +ℤ dx)) three.0 in
    let one = or_parts (is_beyond (pos e.left +ℤ dx)) (is_beyond (pos e.bottom +ℤ dy)) two.0 in
    let left = within (pos e.left +ℤ dx) one.0 in
    let bottom = within (pos e.bottom +ℤ dy) one.1 in
    let right = within (pos e.right +ℤ dx) two.1 in
    let top = within (pos e.top +ℤ dy) three.1 in
    let moved : IsMoved e (lines_moved e dx dy) dx dy = record {
      left = left.0;
      bottom = bottom.0;
      right = right.0;
      top = top.0;
      legal = record {
        left_in = left.1;
        wide = omega (arith, ints, left.0, right.0, wide);
        right_in = right.2;
        bottom_in = bottom.1;
        tall = omega (arith, ints, bottom.0, top.0, tall);
        top_in = top.2;
      };
    } in
    subst (λ s. IsMoved e s dx dy) stays.1 moved

-- ---- sums of 32 bits
-- the two are one line, or neither is a line of the world
abbrev pub AreAlike : ℤ → ℤ → Type 0
AreAlike a b = (a ≡ b) ⊎ ((is_outside a ≡ true) × (is_outside b ≡ true))

outside_above : (z : ℤ) → pos 1048576 <ℤ z → is_outside z ≡ true
unfolding is_outside
outside_above z high = grind (arith, ints)

outside_below : (z : ℤ) → z <ℤ negsuc 1048575 → is_outside z ≡ true
unfolding is_outside
outside_below z low = grind (arith, ints)

-- a sum that doesn't fit is none of the world, nor is what stands for it
alike-saturated : (z sum : ℤ) → sum ≡ saturate_signed w32 z → AreAlike sum z
alike-saturated (pos n) sum is = elim (cases_lt n 2147483648) [
  | inl fits ↦ inl (omega (arith, ints, is, fits))
  | inr high ↦ inr (outside_above sum (omega (arith, ints, is, high)), outside_above (pos n) (omega (arith, ints, high)))
]
alike-saturated (negsuc n) sum is = elim (cases_lt n 2147483648) [
  | inl fits ↦ inl (omega (arith, ints, is, fits))
  | inr low ↦ inr (outside_below sum (omega (arith, ints, is, low)), outside_below (negsuc n) (omega (arith, ints, low)))
]

pub alike-moved : (line : ℕ) (w z sum : ℤ) → pos line ≡ w +ℤ pos origin → sum ≡ saturate_signed w32 (w +ℤ z) → AreAlike sum (moved_line line z)
alike-moved line w z sum counted is =
    let same : w +ℤ z ≡ moved_line line z = omega (arith, ints, counted) in
    subst (AreAlike sum) same (alike-saturated (w +ℤ z) sum is)

no_rect : (a b : Bool) (s : Rect) → b ≡ true → or_none (if a then Err Empty else (if b then Err Outside else Ok s)) ≡ None
no_rect true b s h = refl
no_rect false true s h = refl
no_rect false false s h = absurd (cc h)

-- no rectangle has a line outside the world
none-outside : (l b r t : ℤ) → (is_outside l || is_outside b || is_outside r || is_outside t) ≡ true → or_none (rect_of l b r t) ≡ None
unfolding rect_of
none-outside l b r t out = no_rect (int_le r l || int_le t b) (is_outside l || is_outside b || is_outside r || is_outside t) _ out

same-alike :
    (l b r t l' b' r' t' : ℤ) → AreAlike l l' → AreAlike b b' → AreAlike r r' → AreAlike t t' → or_none (rect_of l b r t) ≡ or_none (rect_of l' b' r' t')
same-alike l b r t l' b' r' t' (inr out) bottom right top =
    none-outside l b r t (or_left _ _ (or_left _ _ (or_left _ _ out.0))) ∙ sym (none-outside l' b' r' t' (or_left _ _ (or_left _ _ (or_left _ _ out.1))))
same-alike l b r t l' b' r' t' left (inr out) right top =
    none-outside l b r t (or_left _ _ (or_left _ _ (or_right _ _ out.0))) ∙ sym (none-outside l' b' r' t' (or_left _ _ (or_left _ _ (or_right _ _ out.1))))
same-alike l b r t l' b' r' t' left bottom (inr out) top = none-outside l b r t (or_left _ _ (or_right _ _ out.0)) ∙ sym (none-outside l' b' r' t' (or_left _ _ (or_right _ _ out.1)))
same-alike l b r t l' b' r' t' left bottom right (inr out) = none-outside l b r t (or_right _ _ out.0) ∙ sym (none-outside l' b' r' t' (or_right _ _ out.1))
same-alike l b r t l' b' r' t' (inl left) (inl bottom) (inl right) (inl top) = rw (left, bottom, right, top) refl

result_ok-is : (made : Result Rect RectFault) → result_ok made ≡ or_none made
result_ok-is (Ok e) = refl
result_ok-is (Err fault) = refl

pub moved_rect-saturated :
    (e : Rect) (dx dy l b r t : ℤ) (made : Result Rect RectFault) (after : Option Rect) → AreAlike l (moved_line e.left dx) → AreAlike b (moved_line e.bottom dy)
    → AreAlike r (moved_line e.right dx) → AreAlike t (moved_line e.top dy) → made ≡ rect_of l b r t → after ≡ result_ok made → after ≡ moved_rect e dx dy
unfolding moved_rect
moved_rect-saturated e dx dy l b r t made after left bottom right top is_made is =
    is ∙ result_ok-is made ∙ ap or_none is_made
    ∙ same-alike l b r t (moved_line e.left dx) (moved_line e.bottom dy) (moved_line e.right dx) (moved_line e.top dy) left bottom right top

-- ---- its squares
-- the rectangle has the square at this column and row, which may lie below 0
abbrev pub holds_at : Rect → ℤ → ℤ → Bool
holds_at e (pos x) (pos y) = holds e x y
holds_at e x y = false

from_low : (l l' x a : ℕ) (d : ℤ) → pos l' ≡ pos l +ℤ d → pos x -ℤ d ≡ pos a → nat_le l' x ≡ nat_le l a
from_low l l' x a d line at = grind (arith, ints, nat_tests)

to_high : (r r' x a : ℕ) (d : ℤ) → pos r' ≡ pos r +ℤ d → pos x -ℤ d ≡ pos a → nat_lt x r' ≡ nat_lt a r
to_high r r' x a d line at = grind (arith, ints, nat_tests)

below_low : (l l' x a : ℕ) (d : ℤ) → pos l' ≡ pos l +ℤ d → pos x -ℤ d ≡ negsuc a → nat_le l' x ≡ false
below_low l l' x a d line at = grind (arith, ints, nat_tests)

module _ (e r : Rect) (dx dy : ℤ) (x y : ℕ) (moved : IsMoved e r dx dy) where
  holds-at : (zx zy : ℤ) → pos x -ℤ dx ≡ zx → pos y -ℤ dy ≡ zy → holds r x y ≡ holds_at e zx zy
  holds-at (pos a) (pos b) column row =
      rw (from_low e.left r.left x a dx moved.left column, to_high e.right r.right x a dx moved.right column, from_low e.bottom r.bottom y b dy moved.bottom row, to_high e.top r.top y b dy moved.top row) refl
  holds-at (pos a) (negsuc b) column row =
      ap (λ over. nat_le r.left x && nat_lt x r.right && over && nat_lt y r.top) (below_low e.bottom r.bottom y b dy moved.bottom row)
      ∙ ap (λ none. none && nat_lt y r.top) (and-false (nat_le r.left x && nat_lt x r.right))
  holds-at (negsuc a) zy column row =
      ap (λ right_of. right_of && nat_lt x r.right && nat_le r.bottom y && nat_lt y r.top) (below_low e.left r.left x a dx moved.left column)

  -- they are the squares of the rectangle, moved
  pub holds-IsMoved : holds r x y ≡ holds_at e (pos x -ℤ dx) (pos y -ℤ dy)
  holds-IsMoved = holds-at (pos x -ℤ dx) (pos y -ℤ dy) refl refl

-- ---- squares that leave the world
world_has-from : (x y : ℤ) → pos 3145728 ≤ℤ x → x <ℤ pos 5242880 → pos 3145728 ≤ℤ y → y <ℤ pos 5242880 → world_has x y ≡ true
world_has-from x y a b c d = grind (arith, ints)

pub world_has-to : (x y : ℤ) → world_has x y ≡ true → (pos 3145728 ≤ℤ x) × (x <ℤ pos 5242880) × (pos 3145728 ≤ℤ y) × (y <ℤ pos 5242880)
world_has-to x y h = (grind (arith, ints), grind (arith, ints), grind (arith, ints), grind (arith, ints))

-- the world has each square of a rectangle that stays
pub world_has-IsMoved : (e r : Rect) (dx dy : ℤ) (x y : ℕ) → IsMoved e r dx dy → holds e x y ≡ true → world_has (pos x +ℤ dx) (pos y +ℤ dy) ≡ true
world_has-IsMoved e r dx dy x y moved inside =
    let lines = holds_between e x y inside in
    world_has-from (pos x +ℤ dx) (pos y +ℤ dy)
    (omega (arith, ints, lines.0, moved.left, moved.legal.left_in))
    (omega (arith, ints, lines.1, moved.right, moved.legal.right_in))
    (omega (arith, ints, lines.2, moved.bottom, moved.legal.bottom_in))
    (omega (arith, ints, lines.3, moved.top, moved.legal.top_in))

pub not_beyond : (z : ℤ) → pos 3145728 ≤ℤ z → z ≤ℤ pos 5242880 → is_beyond z ≡ false
not_beyond z low high = grind (arith, ints)

pub none_of : (a b c d : Bool) → a ≡ false → b ≡ false → c ≡ false → d ≡ false → (a || b || c || d) ≡ false
none_of a b c d ha hb hc hd = rw (ha, hb, hc, hd) refl

-- and lacks one of the squares of a rectangle that doesn't
pub square-leaves :
    (e : Rect) (dx dy : ℤ) → e.left < e.right → e.bottom < e.top → moved_rect e dx dy ≡ None
    → (x : ℕ) × (y : ℕ) × (holds e x y ≡ true) × (world_has (pos x +ℤ dx) (pos y +ℤ dy) ≡ false)
square-leaves e dx dy wide tall none = elim (cases_Bool (world_has (pos e.left +ℤ dx) (pos e.bottom +ℤ dy))) [
  | inr low ↦ (e.left, e.bottom, between_holds e e.left e.bottom (omega arith) wide (omega arith) tall, low)
  | inl low ↦ elim (cases_Bool (world_has (pos (e.right - 1) +ℤ dx) (pos (e.top - 1) +ℤ dy))) [
    | inr high ↦ (
      e.right - 1,
      e.top - 1,
      between_holds e (e.right - 1) (e.top - 1) (omega (arith, wide)) (omega (arith, wide)) (omega (arith, tall)) (omega (arith, tall)),
      high,
    )
    | inl high ↦
        let lower = world_has-to (pos e.left +ℤ dx) (pos e.bottom +ℤ dy) low in
        let upper = world_has-to (pos (e.right - 1) +ℤ dx) (pos (e.top - 1) +ℤ dy) high in
        let beyond = lost (goes_beyond e dx dy) (lines_moved e dx dy) (sym (moved_rect-is e dx dy wide tall) ∙ none) in
        let stays =
        none_of (is_beyond (pos e.left +ℤ dx)) (is_beyond (pos e.bottom +ℤ dy)) (is_beyond (pos e.right +ℤ dx)) (is_beyond (pos e.top +ℤ dy))
        (not_beyond (pos e.left +ℤ dx) lower.0 (omega (arith, ints, lower.1)))
        (not_beyond (pos e.bottom +ℤ dy) lower.2 (omega (arith, ints, lower.3)))
        (not_beyond (pos e.right +ℤ dx) (omega (arith, ints, lower.0, wide)) (omega (arith, ints, upper.1, wide)))
        (not_beyond (pos e.top +ℤ dy) (omega (arith, ints, lower.2, tall)) (omega (arith, ints, upper.3, tall))) in
        absurd (cc (sym beyond ∙ stays))
  ]
]
