-- Slots in the course of painting: those of a piece are filled with its kind.
use Rattle.mls_geom.proofs.Common.{◌≡◌, ℕ, ◌-◌, ◌<◌, ◌≤◌, ◌&&◌, if◌then◌else◌, nat_le, nat_lt, Option, Some, None, List, length, drop, get_or, replicate, ap, inl, inr, arith, rules, unwrap_or, cases_lt, nat_tests, length-drop, length-replicate, length-take-le, places}
use Rattle.mls_geom.specs.Locality.{uncovered}
use Rattle.mls_geom.specs.Sweep.Slots.{HaveBytes, shown}
use borrow.Rule.Slice.PartMut.{put_mid, same_len_mid}

module _
    (kinds new : List (Option ℕ)) (first end kind : ℕ) (wide : first ≤ end) (within : end ≤ length kinds) (filled : new ≡ replicate (end - first) (Some kind)) where
  abbrev after : List (Option ℕ)
  after = put_mid first (end - first) kinds new

  left_of : (slot : ℕ) → slot < first → get_or after slot None ≡ get_or kinds slot None
  left_of slot before = search (rules, places)

  inside : (slot : ℕ) → first ≤ slot → slot < end → get_or after slot None ≡ Some kind
  inside slot from to = rw filled (search (rules, places))

  right_of : (slot : ℕ) → end ≤ slot → get_or after slot None ≡ get_or kinds slot None
  right_of slot past = rw filled (search (rules, places))

  pub length-filled : length after ≡ length kinds
  length-filled = same_len_mid first (end - first) kinds new
      (omega (arith, ap length filled, length-replicate (end - first) (Some kind), length-take-le (end - first) (drop first kinds) (omega (arith, length-drop first kinds))))

  -- what a slot shows then
  pub shown-filled : (slot : ℕ) → shown after slot ≡ (if nat_le first slot && nat_lt slot end then kind else shown kinds slot)
  shown-filled slot = elim (cases_lt slot first) [
    | inl before ↦ let same = ap (λ k. unwrap_or k uncovered) (left_of slot before) in grind (arith, nat_tests, same)
    | inr from ↦ elim (cases_lt slot end) [
      | inl to ↦ let own = ap (λ k. unwrap_or k uncovered) (inside slot from to) in grind (arith, nat_tests, own)
      | inr past ↦ let same = ap (λ k. unwrap_or k uncovered) (right_of slot past) in grind (arith, nat_tests, same)
    ]
  ]

  pub HaveBytes-filled : kind < uncovered → HaveBytes kinds → HaveBytes after
  HaveBytes-filled byte bytes slot = elim (cases_lt slot first) [
    | inl before ↦ rw (left_of slot before) (bytes slot)
    | inr from ↦ elim (cases_lt slot end) [
      | inl to ↦ rw (inside slot from to) byte
      | inr past ↦ rw (right_of slot past) (bytes slot)
    ]
  ]
