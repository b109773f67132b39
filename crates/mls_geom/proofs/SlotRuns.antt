-- Slots of one kind, next to each other, are a run if the slots on both sides have other kinds. Here a slot of no piece has the kind of uncovered squares.
use Rattle.mls_geom.proofs.Common.{◌≡◌, ◌≢◌, ℕ, ◌+◌, ◌-◌, ◌<◌, ◌≤◌, Option, List, length, slice_index, sym, ◌∙◌, arith, AllPairs-from_increasing}
use Rattle.mls_geom.proofs.Definitions.{Rect, Picture, AreCuts, AreSlotKinds, IsRun}
use Rattle.mls_geom.specs.Sweep.Slots.{shown}
use Rattle.mls_geom.proofs.CutLines.{before_from_less, rises, slot_at}

module _
    (extent : Rect) (picture : Picture) (y : ℕ) (lines : List ℕ) (kinds : List (Option ℕ)) (cuts : AreCuts extent lines)
    (slot_kinds : AreSlotKinds picture y lines kinds) where
  -- the squares on both sides of a line
  right_of_line : (index : ℕ) → index < length kinds → picture (slice_index lines index) y ≡ shown kinds index
  right_of_line index within =
      let count = slot_kinds.count in
      slot_kinds.each index _ within (omega arith) (cuts.ascending index (omega arith))

  left_of_line : (index : ℕ) → 0 < index → index ≤ length kinds → picture (slice_index lines index - 1) y ≡ shown kinds (index - 1)
  left_of_line index some within =
      let count = slot_kinds.count in
      let next : index - 1 + 1 ≡ index = omega arith in
      let wide = rw next at (cuts.ascending (index - 1) (omega arith)) in
      slot_kinds.each (index - 1) _ (omega arith) (omega arith) (rw next (omega arith))

  pub IsRun-from_slots :
      (first end : ℕ) → first < end → end ≤ length kinds → ((slot : ℕ) → first ≤ slot → slot < end → shown kinds slot ≡ shown kinds first)
      → (0 < first → shown kinds first ≢ shown kinds (first - 1)) → (end < length kinds → shown kinds end ≢ shown kinds (end - 1))
      → IsRun extent picture (slice_index lines first) (slice_index lines end) y (shown kinds first)
  IsRun-from_slots first end wide within alike starts ends =
      let count = slot_kinds.count in
      record {
        from = omega (arith, cuts.first, rises lines cuts.ascending 0 first (omega arith) (omega arith));
        wide = AllPairs-from_increasing lines cuts.ascending first end 0 wide (omega arith);
        to = omega (arith, cuts.last, rises lines cuts.ascending end (length lines - 1) (omega arith) (omega arith));
        one_kind = λ x after before.
            (let there : first + (end - first) ≡ end = omega arith in
            let found = slot_at lines x first (end - first) after (rw there before) in
            slot_kinds.each found.0 x (omega (arith, found.2)) found.3 found.4 ∙ alike found.0 found.1 (omega (arith, found.2)));
        ends_left = λ inside goes_on.
            (let some = before_from_less lines cuts.ascending 0 first cuts.some (omega (arith, cuts.first)) in
            starts some (sym goes_on ∙ left_of_line first some (omega arith)));
        ends_right = λ inside goes_on.
            (let more = before_from_less lines cuts.ascending end (length lines - 1) (omega arith) (omega (arith, cuts.last)) in
            ends (omega (arith, more))
            (sym (right_of_line end (omega (arith, more))) ∙ goes_on ∙ sym (alike (end - 1) (omega arith) (omega arith))));
      }
