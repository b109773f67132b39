-- Rectangles in two halves. This project's own.
use Rattle.std.specs.Prelude.{◌≡◌, ℕ, ◌+◌, ◌-◌, ◌<◌, ◌||◌}
use Rattle.mls_geom.specs.Rects.{Rect, holds}

-- how wide and how high a rectangle is, together
abbrev pub sides : Rect → ℕ
sides rect = (rect.right - rect.left) + (rect.top - rect.bottom)

-- two rectangles that have together the squares of a third one, whose sides are longer
pub record AreHalves (whole one other : Rect) : Type 0 where
  pub squares : (x y : ℕ) → holds whole x y ≡ (holds one x y || holds other x y)
  pub one_less : sides one < sides whole
  pub other_less : sides other < sides whole
