-- The parts of a rectangle beside another one inside it.
use Rattle.std.proofs.Common.{◌≡◌, true, false, cond, IsTrue, List, [], ◌∷◌, Option, Some, None, inl, inr, refl, arith}
use Rattle.mls_stitch.proofs.Common.{IsSomeAnd, both_ways, cases_lt, nat_tests, Rect, Point, has_squares, holds, Contains-first, Contains-rest, between_holds, holds_between, IsInPart}
use Rattle.mls_stitch.proofs.ReplacedStitches.{Any-contained}

-- the area as a rectangle, if it has squares
abbrev pub part : Rect → Option Rect
part e = cond (has_squares e) (Some e) None

with_squares : (e : Rect) (at : Point) → holds e at.x at.y ≡ true → has_squares e ≡ true
with_squares e at inside = grind (arith, nat_tests)

-- a square of the area is one of its part
part-holds : (e : Rect) (at : Point) → holds e at.x at.y ≡ true → IsSomeAnd (part e) (λ r. IsTrue (holds r at.x at.y))
part-holds e at inside = rw (with_squares e at inside) inside

in_first : (e : Rect) (parts : List (Option Rect)) (at : Point) → holds e at.x at.y ≡ true → IsInPart (part e ∷ parts) at
in_first e parts at inside =
    Any-contained (λ o. IsSomeAnd o (λ r. IsTrue (holds r at.x at.y))) (part e ∷ parts) (part e) (Contains-first (part e) (part e) parts refl) (part-holds e at inside)

in_rest : (first : Option Rect) (parts : List (Option Rect)) (at : Point) → IsInPart parts at → IsInPart (first ∷ parts) at
in_rest first parts at (k, other, within, is, inside) =
    Any-contained (λ o. IsSomeAnd o (λ r. IsTrue (holds r at.x at.y))) (first ∷ parts) other (Contains-rest first other parts (k, within, is)) inside

-- the parts below the inner rectangle, above it, to the left and to the right
abbrev pub below : Rect → Rect → Rect
below whole inner = record { left = whole.left; bottom = whole.bottom; right = whole.right; top = inner.bottom }

abbrev pub above : Rect → Rect → Rect
above whole inner = record { left = whole.left; bottom = inner.top; right = whole.right; top = whole.top }

abbrev pub before : Rect → Rect → Rect
before whole inner = record { left = whole.left; bottom = inner.bottom; right = inner.left; top = inner.top }

abbrev pub after : Rect → Rect → Rect
after whole inner = record { left = inner.right; bottom = inner.bottom; right = whole.right; top = inner.top }

-- have each square outside it
parts_whole :
    (whole inner : Rect) (at : Point) → holds whole at.x at.y ≡ true → holds inner at.x at.y ≡ false
    → IsInPart (part (below whole inner) ∷ part (above whole inner) ∷ part (before whole inner) ∷ part (after whole inner) ∷ []) at
parts_whole whole inner at inside outside =
    let lines = holds_between whole at.x at.y inside in
    let low = part (below whole inner) in
    let high = part (above whole inner) in
    let left = part (before whole inner) in
    let right = part (after whole inner) in
    elim (cases_lt at.y inner.bottom) [
      | inl lower ↦ in_first (below whole inner) (high ∷ left ∷ right ∷ []) at (between_holds (below whole inner) at.x at.y lines.0 lines.1 lines.2 lower)
      | inr up ↦ elim (cases_lt at.y inner.top) [
        | inr higher ↦ in_rest low (high ∷ left ∷ right ∷ []) at (in_first (above whole inner) (left ∷ right ∷ []) at (between_holds (above whole inner) at.x at.y lines.0 lines.1 higher lines.3))
        | inl down ↦ in_rest low (high ∷ left ∷ right ∷ []) at (in_rest high (left ∷ right ∷ []) at (elim (cases_lt at.x inner.left) [
          | inl further ↦ in_first (before whole inner) (right ∷ []) at (between_holds (before whole inner) at.x at.y lines.0 further up down)
          | inr from ↦ elim (cases_lt at.x inner.right) [
            | inl to ↦ absurd (both_ways _ outside (between_holds inner at.x at.y from to up down))
            | inr beyond ↦ in_rest left (right ∷ []) at (in_first (after whole inner) [] at (between_holds (after whole inner) at.x at.y beyond lines.1 up down))
          ]
        ]))
      ]
    ]

pub parts_cover :
    (whole inner : Rect) (a b c d : Option Rect) (at : Point) → a ≡ part (below whole inner) → b ≡ part (above whole inner) → c ≡ part (before whole inner) → d ≡ part (after whole inner)
    → holds whole at.x at.y ≡ true → holds inner at.x at.y ≡ false → IsInPart (a ∷ b ∷ c ∷ d ∷ []) at
parts_cover whole inner a b c d at is_a is_b is_c is_d inside outside = rw (is_a, is_b, is_c, is_d) (parts_whole whole inner at inside outside)
