-- A strip by its lower-left square.
use Rattle.mls_geom.proofs.Common.{◌≡◌, ℕ, ◌-◌, ◌≤◌, true, inl, inr, sym, ◌∙◌, le_refl, arith, and_from, and_parts, not-true, not_from_false, cases_lt, both_ways, false_from_ne_true}
use Rattle.mls_geom.proofs.Definitions.{Rect, holds, Picture, IsRun, IsStrip, starts_run, goes_on_below, is_corner, Piece}
use Rattle.mls_geom.proofs.Holds.{holds_between}
use Rattle.mls_geom.proofs.RunTests.{starts_run-IsRun, left-starts_run, run_end-IsRun, goes_on_below-IsRun, IsRun-below}

-- the lower-left square of a strip is a corner
pub is_corner-IsStrip : (extent : Rect) (picture : Picture) (piece : Piece) → IsStrip extent picture piece → is_corner extent picture piece.rect.left piece.rect.bottom ≡ true
is_corner-IsStrip extent picture piece strip =
    let run = strip.rows piece.rect.bottom (le_refl piece.rect.bottom) strip.tall in
    let starts = starts_run-IsRun extent picture piece.rect.left piece.rect.right piece.rect.bottom piece.kind run in
    let ends = λ (on : goes_on_below extent picture piece.rect.left piece.rect.bottom ≡ true).
    let below = IsRun-below extent picture piece.rect.left piece.rect.right piece.rect.bottom piece.kind run on in
    strip.ends_below below.0 below.1 in
    and_from _ _ starts (not_from_false _ (false_from_ne_true _ ends))

-- and no other square of it is
pub corner-IsStrip :
    (extent : Rect) (picture : Picture) (piece : Piece) (x y : ℕ) → IsStrip extent picture piece → holds piece.rect x y ≡ true → is_corner extent picture x y ≡ true
    → (piece.rect.left ≡ x) × (piece.rect.bottom ≡ y)
corner-IsStrip extent picture piece x y strip inside corner =
    let lines = holds_between piece.rect x y inside in
    let run = strip.rows y lines.2 lines.3 in
    let tests = and_parts (starts_run extent picture x y) _ corner in
    let lefts = left-starts_run extent picture piece.rect.left piece.rect.right y piece.kind x run lines.0 lines.1 tests.0 in
    let low : y ≤ piece.rect.bottom = elim (cases_lt piece.rect.bottom y) [
      | inl up ↦
          let below = strip.rows (y - 1) (omega arith) (omega arith) in
          let on = goes_on_below-IsRun extent picture piece.rect.left piece.rect.right y piece.kind (omega (arith, strip.from)) run below in
          absurd (both_ways (goes_on_below extent picture x y) (not-true _ tests.1) (rw lefts at on))
      | inr low ↦ low
    ] in
    (lefts, omega (arith, lines.2))

-- two runs that begin at one square are one
same_run :
    (extent : Rect) (picture : Picture) (left right right' y kind kind' : ℕ) → IsRun extent picture left right y kind → IsRun extent picture left right' y kind'
    → (right ≡ right') × (kind ≡ kind')
same_run extent picture left right right' y kind kind' run other = (
  sym (run_end-IsRun extent picture left right y kind run) ∙ run_end-IsRun extent picture left right' y kind' other,
  sym (run.one_kind left (le_refl left) run.wide) ∙ other.one_kind left (le_refl left) other.wide,
)

-- of two strips that begin at one square neither is higher
no_higher :
    (extent : Rect) (picture : Picture) (p q : Piece) → IsStrip extent picture p → IsStrip extent picture q → p.rect.left ≡ q.rect.left → p.rect.right ≡ q.rect.right
    → p.kind ≡ q.kind → p.rect.bottom ≡ q.rect.bottom → q.rect.top ≤ p.rect.top
no_higher extent picture p q strip other lefts rights kinds bottoms = elim (cases_lt p.rect.top q.rect.top) [
  | inl higher ↦
      let run = other.rows p.rect.top (omega (arith, strip.tall)) higher in
      absurd (strip.ends_above (omega (arith, other.to)) (rw (lefts, rights, kinds) run))
  | inr low ↦ low
]

-- two strips with one lower-left square are one
pub same_strip :
    (extent : Rect) (picture : Picture) (p q : Piece) → IsStrip extent picture p → IsStrip extent picture q → p.rect.left ≡ q.rect.left → p.rect.bottom ≡ q.rect.bottom → p ≡ q
same_strip extent picture p q strip other lefts bottoms =
    let run = strip.rows p.rect.bottom (le_refl p.rect.bottom) strip.tall in
    let second = other.rows q.rect.bottom (le_refl q.rect.bottom) other.tall in
    let same = same_run extent picture q.rect.left p.rect.right q.rect.right q.rect.bottom p.kind q.kind (rw (lefts, bottoms) at run) second in
    let tops : p.rect.top ≡ q.rect.top =
    omega (arith, no_higher extent picture p q strip other lefts same.0 same.1 bottoms, no_higher extent picture q p other strip (sym lefts) (sym same.0) (sym same.1) (sym bottoms)) in
    λ i. record { rect = record { left = lefts i; bottom = bottoms i; right = same.0 i; top = tops i }; kind = same.1 i }
