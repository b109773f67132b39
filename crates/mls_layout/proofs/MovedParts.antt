-- The part of an extent that a moved rectangle covers, from where its lines come to lie.
use Rattle.std.proofs.Common.{◌≡◌, ℕ, ◌<◌, ◌≤◌, ℤ, pos, negsuc, ◌+ℤ◌, ◌-ℤ◌, ◌&&◌, Bool, true, false, not, if◌then◌else◌, nat_le, nat_lt, Option, Some, None, is_some, refl, sym, ap, subst, ◌∙◌, arith}
use Rattle.std.specs.Prelude.{int_le}
use Rattle.std.proofs.Math.Path.{fun_ext}
use Rattle.std.proofs.lemmas.Bool.{false_from_ne_true, true≢false}
use Rattle.std.proofs.lemmas.Bool.Decides.{nat_tests}
use Rattle.std.proofs.lemmas.Int.{ints}
use Rattle.mls_geom.specs.Rects.{IsWithin, Rect, has_squares, holds}
use Rattle.mls_geom.proofs.Holds.{has_squares_lines, holds_between, square_has_squares}
use Rattle.mls_layout.specs.Moves.{IsPartOf, holds_at, is_moved, moves_into}

-- a line that was moved, and the column that was, lie as the two do
int_le-moved : (line x : ℕ) (by : ℤ) → int_le (pos line +ℤ by) (pos x) ≡ int_le (pos line) (pos x -ℤ by)
int_le-moved line x by = grind (arith, ints)

-- the line comes to lie, for each column of a range, on the side of the column on which the first line is of the column's image
abbrev pub LiesAs : ℕ → ℕ → (ℕ → ℤ) → ℕ → ℕ → Type 0
LiesAs low high image line to = (x : ℕ) → low ≤ x → x < high → nat_le to x ≡ int_le (pos line) (image x)

pub LiesAs-moved :
    (low high line to low' high' line' : ℕ) (by : ℤ) → low' ≡ low → high' ≡ high → line' ≡ line
    → ((x : ℕ) → low' ≤ x → x < high' → nat_le to x ≡ int_le (pos line' +ℤ by) (pos x)) → LiesAs low high (λ x. pos x -ℤ by) line to
LiesAs-moved low high line to low' high' line' by is_low is_high is_line lies x from below =
    lies x (omega (arith, is_low, from)) (omega (arith, is_high, below)) ∙ ap (λ l. int_le (pos l +ℤ by) (pos x)) is_line ∙ int_le-moved line x by

not_beyond : (right x : ℕ) → nat_lt x right ≡ not (nat_le right x)
not_beyond right x = grind (arith, nat_tests)

at_or_after : (line a : ℕ) → int_le (pos line) (pos a) ≡ nat_le line a
at_or_after line a = grind (arith, ints, nat_tests)

no_column : (a b c d : Bool) → a ≡ false → (a && b && c && d) ≡ false
no_column true b c d h = absurd (cc h)
no_column false b c d h = refl

no_row : (a b c d : Bool) → c ≡ false → (a && b && c && d) ≡ false
no_row a b true d h = absurd (cc h)
no_row true true false d h = refl
no_row true false false d h = refl
no_row false b false d h = refl

module _ (e extent lines : Rect) (image_x image_y : ℕ → ℤ) (left : LiesAs extent.left extent.right image_x e.left lines.left) (right : LiesAs extent.left extent.right image_x e.right lines.right) (bottom : LiesAs extent.bottom extent.top image_y e.bottom lines.bottom) (top : LiesAs extent.bottom extent.top image_y e.top lines.top) where
  holds_by :
      (x y : ℕ) (zx zy : ℤ) → nat_le lines.left x ≡ int_le (pos e.left) zx → nat_le lines.right x ≡ int_le (pos e.right) zx
      → nat_le lines.bottom y ≡ int_le (pos e.bottom) zy → nat_le lines.top y ≡ int_le (pos e.top) zy → holds lines x y ≡ holds_at e zx zy
  holds_by x y (pos a) (pos b) l r d u =
      rw (
        l ∙ at_or_after e.left a,
        not_beyond lines.right x ∙ ap not (r ∙ at_or_after e.right a) ∙ sym (not_beyond e.right a),
        d ∙ at_or_after e.bottom b,
        not_beyond lines.top y ∙ ap not (u ∙ at_or_after e.top b) ∙ sym (not_beyond e.top b),
      ) refl
  holds_by x y (pos a) (negsuc b) l r d u = no_row (nat_le lines.left x) (nat_lt x lines.right) (nat_le lines.bottom y) (nat_lt y lines.top) d
  holds_by x y (negsuc a) zy l r d u = no_column (nat_le lines.left x) (nat_lt x lines.right) (nat_le lines.bottom y) (nat_lt y lines.top) l

  same_squares : (x y : ℕ) → holds extent x y ≡ true → holds lines x y ≡ holds_at e (image_x x) (image_y y)
  same_squares x y inside =
      let at = holds_between extent x y inside in
      holds_by x y (image_x x) (image_y y) (left x at.0 at.1) (right x at.0 at.1) (bottom y at.2 at.3) (top y at.2 at.3)

  -- the rectangle between the lines has the squares of the extent whose images lie in the first rectangle
  pub IsPartOf-lines : IsWithin extent lines → IsPartOf extent (λ x y. holds_at e (image_x x) (image_y y)) (if has_squares lines then Some lines else None)
  IsPartOf-lines within = by (has_squares lines) refl
    where
      by : (some : Bool) → has_squares lines ≡ some → IsPartOf extent (λ x y. holds_at e (image_x x) (image_y y)) (if some then Some lines else None)
      by true some =
          let (wide, tall) = has_squares_lines lines some in (
            record {
              left_in = within.left;
              wide = wide;
              right_in = within.right;
              bottom_in = within.bottom;
              tall = tall;
              top_in = within.top;
            },
            same_squares,
          )
      by false none = λ x y inside.
          false_from_ne_true (holds_at e (image_x x) (image_y y))
          (λ there. true≢false (sym (square_has_squares lines x y (same_squares x y inside ∙ there)) ∙ none))

-- what moves back by the opposite moves into the rectangle
moved_back : (x : ℕ) (by opposite : ℤ) → opposite +ℤ by ≡ pos 0 → pos x -ℤ opposite ≡ pos x +ℤ by
moved_back x by opposite none = omega (arith, ints, none)

pub IsPartOf-moved_back :
    (e extent : Rect) (dx dy back_x back_y : ℤ) (part : Option Rect) → back_x +ℤ dx ≡ pos 0 → back_y +ℤ dy ≡ pos 0
    → IsPartOf extent (is_moved e back_x back_y) part → IsPartOf extent (moves_into e dx dy) part
IsPartOf-moved_back e extent dx dy back_x back_y part none_x none_y are =
    subst (λ test. IsPartOf extent test part)
    (fun_ext (λ x. fun_ext (λ y. ap (λ z. holds_at e z (pos y -ℤ back_y)) (moved_back x dx back_x none_x) ∙ ap (holds_at e (pos x +ℤ dx)) (moved_back y dy back_y none_y)))) are

-- where there is no part, no square passes the test
pub IsPartOf-none :
    (extent : Rect) (test : ℕ → ℕ → Bool) (part : Option Rect) → is_some part ≡ false → IsPartOf extent test part → (x y : ℕ) → holds extent x y ≡ true → test x y ≡ false
IsPartOf-none extent test None none are = are
IsPartOf-none extent test (Some part) none are = absurd (cc none)
