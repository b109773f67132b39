-- Lines in ascending order, and the slots between them.
use Rattle.mls_geom.proofs.Common.{◌≡◌, ℕ, zero, suc, ◌+◌, ◌<◌, ◌≤◌, ◌&&◌, nat_le, nat_lt, List, length, slice_index, inl, inr, arith, add-zero, add-suc, add-one, IsStrictlyIncreasing, cases_lt, nat_tests, AllPairs-from_increasing}
use Rattle.mls_geom.specs.Rects.{Rect, holds}

-- a line is not right of a later one
pub rises : (lines : List ℕ) → IsStrictlyIncreasing lines → (i j : ℕ) → i ≤ j → j < length lines → slice_index lines i ≤ slice_index lines j
rises lines ascending i j before within =
    elim (cases_lt i j) [
      | inl below ↦ omega (arith, AllPairs-from_increasing lines ascending i j 0 below within)
      | inr above ↦ (let same : i ≡ j = omega arith in rw same (omega arith))
    ]

-- lines stand in the order of their indices
pub before_from_less :
    (lines : List ℕ) → IsStrictlyIncreasing lines → (i j : ℕ) → i < length lines → slice_index lines i < slice_index lines j → i < j
before_from_less lines ascending i j within less =
    elim (cases_lt i j) [ inl before ↦ before | inr after ↦ absurd (omega (arith, rises lines ascending j i after within)) ]

-- a square between two of the lines lies in a slot between them
pub slot_at :
    (lines : List ℕ) (x from n : ℕ) → slice_index lines from ≤ x → x < slice_index lines (from + n)
    → (slot : ℕ) × (from ≤ slot) × (slot < from + n) × (slice_index lines slot ≤ x) × (x < slice_index lines (slot + 1))
slot_at lines x from zero after before = absurd (omega (arith, rw add-zero at before))
slot_at lines x from (suc n) after before =
    elim (cases_lt x (slice_index lines (from + n))) [
      | inl below ↦ (let found = slot_at lines x from n after below in (found.0, found.1, omega (arith, found.2), found.3, found.4))
      | inr above ↦ (from + n, omega arith, omega arith, above, rw (add-one, ← add-suc) before)
    ]

-- a rectangle that reaches from the line at one index to that at another has the squares of the slots from the one index up to the other
pub holds-indices :
    (lines : List ℕ) (rect : Rect) (from to slot x y : ℕ) → IsStrictlyIncreasing lines → from < length lines → to < length lines → slot + 1 < length lines
    → slice_index lines from ≡ rect.left → slice_index lines to ≡ rect.right → rect.bottom ≤ y → y < rect.top
    → slice_index lines slot ≤ x → x < slice_index lines (slot + 1) → holds rect x y ≡ (nat_le from slot && nat_lt slot to)
holds-indices lines rect from to slot x y ascending from_in to_in slot_in is_left is_right above below after before =
    elim (cases_lt slot from) [
      | inl left ↦ (let far = rises lines ascending (slot + 1) from (omega arith) from_in in grind (arith, nat_tests))
      | inr inside ↦ (let near = rises lines ascending from slot inside (omega arith) in
          elim (cases_lt slot to) [
            | inl within ↦ (let far = rises lines ascending (slot + 1) to (omega arith) to_in in grind (arith, nat_tests))
            | inr right ↦ (let past = rises lines ascending to slot right (omega arith) in grind (arith, nat_tests))
          ])
    ]
