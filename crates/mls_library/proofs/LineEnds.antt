-- The first and the last number of a range that fail a test.
use Rattle.std.proofs.Common.{◌≡◌, ℕ, ◌+◌, ◌-◌, ◌<◌, ◌≤◌, Bool, true, false, length, get_or, reverse, inl, inr, sym, ap, ◌∙◌, arith}
use Rattle.std.specs.List.{prefix_len, range_with_len}
use Rattle.std.proofs.lemmas.List.{get_or-reverse, length-reverse}
use Rattle.std.proofs.lemmas.List.FromFn.{get_or-range_with_len, length-range_with_len}
use Rattle.std.proofs.lemmas.List.Sums.{prefix_len-le-length, prefix_len_passes, prefix_len_stops}
use Rattle.std.proofs.lemmas.Bool.{cases_lt}
use Rattle.mls_geom.proofs.RunTests.{front_passes, front_stops}

module _ (p : ℕ → Bool) (low high : ℕ) where
  -- the number after those at the front that pass, and the number after which all pass
  abbrev pub front_of : ℕ
  front_of = low + prefix_len p (range_with_len low (high - low))

  abbrev pub back_of : ℕ
  back_of = high - prefix_len p (reverse (range_with_len low (high - low)))

  backward : (k : ℕ) → k < high - low → get_or (reverse (range_with_len low (high - low))) k 0 ≡ high - 1 - k
  backward k within =
      let all = range_with_len low (high - low) in
      let many = length-range_with_len low (high - low) in
      get_or-reverse all k 0 (omega (arith, many, within))
      ∙ ap (λ n. get_or all (n - 1 - k) 0) many
      ∙ get_or-range_with_len low (high - low) (high - low - 1 - k) 0 (omega (arith, within))
      ∙ omega (arith, within)

  many_back : length (reverse (range_with_len low (high - low))) ≡ high - low
  many_back = length-reverse (range_with_len low (high - low)) ∙ length-range_with_len low (high - low)

  back_few : prefix_len p (reverse (range_with_len low (high - low))) ≤ high - low
  back_few = omega (arith, prefix_len-le-length p (reverse (range_with_len low (high - low))), many_back)

  back_passes : (k : ℕ) → low ≤ k → k < high → back_of ≤ k → p k ≡ true
  back_passes k above below behind =
      let at : high - 1 - (high - 1 - k) ≡ k = omega (arith, below) in
      ap p (sym (backward (high - 1 - k) (omega (arith, above, below)) ∙ at))
      ∙ prefix_len_passes p (reverse (range_with_len low (high - low))) (high - 1 - k) 0 (omega (arith, behind, below, above))

  -- where some number fails
  module _ (k : ℕ) (above : low ≤ k) (below : k < high) (fails : p k ≡ false) where
    up : low ≤ high
    up = omega (arith, above, below)

    -- it lies between the two
    pub front_below : front_of ≤ k
    front_below = elim (cases_lt k front_of) [
      | inl before ↦ absurd (cc (sym fails ∙ front_passes p low high k up above before))
      | inr behind ↦ behind
    ]

    pub back_above : k < back_of
    back_above = elim (cases_lt k back_of) [
      | inl before ↦ before
      | inr behind ↦ absurd (cc (sym fails ∙ back_passes k above below behind))
    ]

    -- and so do the first one and the last one
    pub front_fails : (low ≤ front_of) × (front_of < high) × (p front_of ≡ false)
    front_fails =
        let before = front_below in
        (omega arith, omega (arith, before, below), front_stops p low high up (omega (arith, before, below)))

    pub back_fails : (m : ℕ) × (back_of ≡ m + 1) × (low ≤ m) × (m < high) × (p m ≡ false)
    back_fails =
        let all = reverse (range_with_len low (high - low)) in
        let n = prefix_len p all in
        let behind = back_above in
        let short : n < high - low = omega (arith, behind, above, below) in (
          high - 1 - n,
          omega (arith, short),
          omega (arith, short),
          omega (arith, short),
          ap p (sym (backward n short)) ∙ prefix_len_stops p all 0 (omega (arith, short, many_back)),
        )
