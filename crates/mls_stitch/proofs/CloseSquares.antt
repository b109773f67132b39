-- Squares that share a side or a corner, and the squares to which stitches lead.
use Rattle.std.proofs.Common.{◌≡◌, ◌⊎◌, ◌-◌, true, false, inl, inr, ap, ◌∙◌, arith}
use Rattle.mls_stitch.proofs.Common.{both_ways, cases_lt, false_from_ne_true, Rect, Point, IsRectangleIn, grown, holds, world, between_holds, holds_between, AreClose, beyond, Stitch, Lb, Bl, Tr, Rt}

pub close_back : (p q : Point) → AreClose p q → AreClose q p
close_back p q close = record { left = close.right; right = close.left; below = close.above; above = close.below }

-- a square close to one of a rectangle lies in the rectangle grown by one
pub close_in_grown : (e : Rect) (p q : Point) → AreClose p q → holds e p.x p.y ≡ true → holds (grown 1 e) q.x q.y ≡ true
close_in_grown e p q close inside =
    let lines = holds_between e p.x p.y inside in
    between_holds (grown 1 e) q.x q.y (omega (arith, lines.0, close.left)) (omega (arith, lines.1, close.right)) (omega (arith, lines.2, close.below)) (omega (arith, lines.3, close.above))

-- the square of a rectangle at the corner where the stitch begins
abbrev pub corner_square : Stitch → Rect → Point
corner_square Lb e = record { x = e.left; y = e.bottom }
corner_square Bl e = record { x = e.left; y = e.bottom }
corner_square Tr e = record { x = e.right - 1; y = e.top - 1 }
corner_square Rt e = record { x = e.right - 1; y = e.top - 1 }

-- the stitch of a tile leads to a square that is close to that one
pub corner_close : (stitch : Stitch) (outer e : Rect) → IsRectangleIn outer e → (holds e (corner_square stitch e).x (corner_square stitch e).y ≡ true) × AreClose (corner_square stitch e) (beyond stitch e)
corner_close Lb outer e legal = (between_holds e e.left e.bottom (omega arith) legal.wide (omega arith) legal.tall, record { left = omega arith; right = omega arith; below = omega arith; above = omega arith })
corner_close Bl outer e legal = (between_holds e e.left e.bottom (omega arith) legal.wide (omega arith) legal.tall, record { left = omega arith; right = omega arith; below = omega arith; above = omega arith })
corner_close Tr outer e legal = (
  between_holds e (e.right - 1) (e.top - 1) (omega (arith, legal.wide)) (omega (arith, legal.wide)) (omega (arith, legal.tall)) (omega (arith, legal.tall)),
  record { left = omega arith; right = omega arith; below = omega arith; above = omega arith },
)
corner_close Rt outer e legal = (
  between_holds e (e.right - 1) (e.top - 1) (omega (arith, legal.wide)) (omega (arith, legal.wide)) (omega (arith, legal.tall)) (omega (arith, legal.tall)),
  record { left = omega arith; right = omega arith; below = omega arith; above = omega arith },
)

-- squares with the same column and row are one
pub same_square : (a b : Point) → a.x ≡ b.x → a.y ≡ b.y → a ≡ b
same_square a b across up = ap (λ x. record { x = x; y = a.y }) across ∙ ap (λ y. record { x = b.x; y = y }) up

-- a rectangle has a square more beside the stitch of another one
pub record HasSquareBeside (stitch : Stitch) (outer e : Rect) : Type 0 where
  pub square : Point
  pub inside : holds outer square.x square.y ≡ true
  pub outside : holds e square.x square.y ≡ false
  pub close : AreClose square (beyond stitch e)

-- where a tile had the square at a rectangle's corner, but not the one to which the stitch there leads, it had the same stitch, or it had a square more
-- beside that
pub beyond_moved :
    (stitch : Stitch) (outer e : Rect) → IsRectangleIn world e → holds outer (corner_square stitch e).x (corner_square stitch e).y ≡ true
    → holds outer (beyond stitch e).x (beyond stitch e).y ≡ false → (beyond stitch e ≡ beyond stitch outer) ⊎ HasSquareBeside stitch outer e
beyond_moved Lb outer e legal inside out =
    let lines = holds_between outer e.left e.bottom inside in
    elim (cases_lt outer.bottom e.bottom) [
      | inl lower ↦ absurd (both_ways _ out (between_holds outer e.left (e.bottom - 1) lines.0 lines.1 (omega (arith, lower)) (omega (arith, lines.3))))
      | inr same ↦ elim (cases_lt outer.left e.left) [
        | inl further ↦ inr (record {
          square = record { x = e.left - 1; y = e.bottom };
          inside = between_holds outer (e.left - 1) e.bottom (omega (arith, further)) (omega (arith, lines.1)) lines.2 lines.3;
          outside = false_from_ne_true _ (λ held. let sides = holds_between e (e.left - 1) e.bottom held in absurd (omega (arith, sides.0, further)));
          close = record { left = omega arith; right = omega arith; below = omega arith; above = omega arith };
        })
        | inr alike ↦ inl (same_square _ _ (omega (arith, alike, lines.0)) (omega (arith, same, lines.2)))
      ]
    ]
beyond_moved Bl outer e legal inside out =
    let lines = holds_between outer e.left e.bottom inside in
    elim (cases_lt outer.left e.left) [
      | inl further ↦ absurd (both_ways _ out (between_holds outer (e.left - 1) e.bottom (omega (arith, further)) (omega (arith, lines.1)) lines.2 lines.3))
      | inr same ↦ elim (cases_lt outer.bottom e.bottom) [
        | inl lower ↦ inr (record {
          square = record { x = e.left; y = e.bottom - 1 };
          inside = between_holds outer e.left (e.bottom - 1) lines.0 lines.1 (omega (arith, lower)) (omega (arith, lines.3));
          outside = false_from_ne_true _ (λ held. let sides = holds_between e e.left (e.bottom - 1) held in absurd (omega (arith, sides.2, lower)));
          close = record { left = omega arith; right = omega arith; below = omega arith; above = omega arith };
        })
        | inr alike ↦ inl (same_square _ _ (omega (arith, same, lines.0)) (omega (arith, alike, lines.2)))
      ]
    ]
beyond_moved Tr outer e legal inside out =
    let lines = holds_between outer (e.right - 1) (e.top - 1) inside in
    elim (cases_lt e.right outer.right) [
      | inl nearer ↦ absurd (both_ways _ out (between_holds outer e.right (e.top - 1) (omega (arith, lines.0)) nearer lines.2 lines.3))
      | inr same ↦ elim (cases_lt e.top outer.top) [
        | inl lower ↦ inr (record {
          square = record { x = e.right - 1; y = e.top };
          inside = between_holds outer (e.right - 1) e.top lines.0 lines.1 (omega (arith, lines.2)) lower;
          outside = false_from_ne_true _ (λ held. let sides = holds_between e (e.right - 1) e.top held in absurd (omega (arith, sides.3)));
          close = record { left = omega arith; right = omega arith; below = omega arith; above = omega arith };
        })
        | inr alike ↦ inl (same_square _ _ (omega (arith, same, lines.1, legal.wide)) (omega (arith, alike, lines.3, legal.tall)))
      ]
    ]
beyond_moved Rt outer e legal inside out =
    let lines = holds_between outer (e.right - 1) (e.top - 1) inside in
    elim (cases_lt e.top outer.top) [
      | inl lower ↦ absurd (both_ways _ out (between_holds outer (e.right - 1) e.top lines.0 lines.1 (omega (arith, lines.2)) lower))
      | inr same ↦ elim (cases_lt e.right outer.right) [
        | inl nearer ↦ inr (record {
          square = record { x = e.right; y = e.top - 1 };
          inside = between_holds outer e.right (e.top - 1) (omega (arith, lines.0)) nearer lines.2 lines.3;
          outside = false_from_ne_true _ (λ held. let sides = holds_between e e.right (e.top - 1) held in absurd (omega (arith, sides.1)));
          close = record { left = omega arith; right = omega arith; below = omega arith; above = omega arith };
        })
        | inr alike ↦ inl (same_square _ _ (omega (arith, alike, lines.1, legal.wide)) (omega (arith, same, lines.3, legal.tall)))
      ]
    ]
