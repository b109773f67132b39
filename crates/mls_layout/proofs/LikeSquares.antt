-- Squares in which a rectangle shows the same.
use Rattle.std.proofs.Common.{◌≡◌, ℕ, true, refl, sym, ap, ◌∙◌, arith}
use Rattle.mls_geom.specs.Pictures.{Picture}
use Rattle.mls_geom.specs.Rects.{Rect, IsRectangleIn, IsWithin, grown, holds}
use Rattle.mls_geom.proofs.Holds.{between_holds, holds-IsWithin, holds_between}
use Rattle.mls_geom.proofs.InnerRects.{IsRectangleIn-within}
use Rattle.mls_layout.specs.Likenesses.{ShowsAlike, Spans, like_column, like_row}
use Rattle.mls_layout.specs.declared.likeness.Likeness.{Likeness}
use Rattle.mls_layout.specs.declared.likeness.Likeness.TheVariants.{OneKind, Columns, Rows}

-- what one rectangle has for a square stands for the same in another one as the square
pub like_column-again : (likeness : Likeness) (e rect : Rect) (x : ℕ) → like_column likeness e (like_column likeness rect x) ≡ like_column likeness e x
like_column-again OneKind e rect x = refl
like_column-again Columns e rect x = refl
like_column-again Rows e rect x = refl

pub like_row-again : (likeness : Likeness) (e rect : Rect) (y : ℕ) → like_row likeness e (like_row likeness rect y) ≡ like_row likeness e y
like_row-again OneKind e rect y = refl
like_row-again Columns e rect y = refl
like_row-again Rows e rect y = refl

-- the corner of a rectangle lies in each rectangle round it
pub corner-holds : (outer rect : Rect) → IsRectangleIn outer rect → holds outer rect.left rect.bottom ≡ true
corner-holds outer rect inside =
    between_holds outer rect.left rect.bottom inside.left_in (omega (arith, inside.wide, inside.right_in)) inside.bottom_in (omega (arith, inside.tall, inside.top_in))

-- and so does what it has for a square that lies there
pub like-holds :
    (likeness : Likeness) (outer rect : Rect) (x y : ℕ) → IsRectangleIn outer rect → holds outer x y ≡ true
    → holds outer (like_column likeness rect x) (like_row likeness rect y) ≡ true
like-holds OneKind outer rect x y inside here = corner-holds outer rect inside
like-holds Columns outer rect x y inside here =
    let lines = holds_between outer x y here in
    between_holds outer x rect.bottom lines.0 lines.1 inside.bottom_in (omega (arith, inside.tall, inside.top_in))
like-holds Rows outer rect x y inside here =
    let lines = holds_between outer x y here in
    between_holds outer rect.left y inside.left_in (omega (arith, inside.wide, inside.right_in)) lines.2 lines.3

-- what spans a rectangle and has one square has each square of the rectangle that shows the same
pub Spans-holds :
    (likeness : Likeness) (outer rect e : Rect) (x y a b : ℕ) → Spans likeness outer rect → like_column likeness e x ≡ like_column likeness e a
    → like_row likeness e y ≡ like_row likeness e b → holds rect a b ≡ true → holds outer x y ≡ true → holds outer a b ≡ true
Spans-holds OneKind outer rect e x y a b spans column row there held = holds-IsWithin outer rect a b spans there
Spans-holds Columns outer rect e x y a b spans column row there held =
    let lines = holds_between outer x y held in
    let sides = holds_between rect a b there in
    between_holds outer a b (omega (arith, column, lines.0)) (omega (arith, column, lines.1)) (omega (arith, spans.0, sides.2)) (omega (arith, spans.1, sides.3))
Spans-holds Rows outer rect e x y a b spans column row there held =
    let lines = holds_between outer x y held in
    let sides = holds_between rect a b there in
    between_holds outer a b (omega (arith, spans.0, sides.0)) (omega (arith, spans.1, sides.1)) (omega (arith, row, lines.2)) (omega (arith, row, lines.3))

-- a rectangle with some squares more on each side has its own
pub grown-holds : (h : ℕ) (rect : Rect) (x y : ℕ) → holds rect x y ≡ true → holds (grown h rect) x y ≡ true
grown-holds h rect x y here =
    let lines = holds_between rect x y here in
    between_holds (grown h rect) x y (omega (arith, lines.0)) (omega (arith, lines.1)) (omega (arith, lines.2)) (omega (arith, lines.3))

-- with none more on each side it has the same squares
pub grown-none : (rect : Rect) → IsWithin rect (grown 0 rect)
grown-none rect = record { left = omega arith; bottom = omega arith; right = omega arith; top = omega arith }

-- and it lies in the rectangle with more
pub grown-IsRectangleIn : (h : ℕ) (extent rect : Rect) → IsRectangleIn extent rect → IsRectangleIn (grown h rect) rect
grown-IsRectangleIn h extent rect =
    IsRectangleIn-within (grown h rect) extent rect (record { left = omega arith; bottom = omega arith; right = omega arith; top = omega arith })

-- two squares for which a rectangle has the same show the same
pub alike-same :
    (likeness : Likeness) (h : ℕ) (rect : Rect) (picture : Picture) (x y a b : ℕ) → ShowsAlike likeness h rect picture → like_column likeness rect x ≡ like_column likeness rect a
    → like_row likeness rect y ≡ like_row likeness rect b → holds (grown h rect) x y ≡ true → holds (grown h rect) a b ≡ true → picture x y ≡ picture a b
alike-same likeness h rect picture x y a b alike column row here there =
    alike x y here ∙ ap (λ n. picture n (like_row likeness rect y)) column ∙ ap (picture (like_column likeness rect a)) row ∙ sym (alike a b there)
