-- The slots that marks change, with those of the runs that they meet or touch.
use Rattle.mls_geom.proofs.Common.{◌≡◌, ℕ, ◌+◌, ◌-◌, ◌<◌, ◌≤◌, min, max, List, length, get_or, slice_index, inl, inr, le_refl, arith, AllWithin, IsNonDecreasingBy, IsStrictlyIncreasing, cases_lt, AllPairs-from_increasing}
use Rattle.mls_geom.proofs.Definitions.{AreInOrder, AreMet, IsChange, IsChangeOf, AreMarks, Span, Run}
use Rattle.mls_geom.proofs.CutLines.{rises}
use Rattle.mls_geom.proofs.RowRuns.{runs_ascend}

-- a later line lies further right
strictly : (lines : List ℕ) → IsStrictlyIncreasing lines → (i j : ℕ) → i < j → j < length lines → slice_index lines i < slice_index lines j
strictly lines ascending i j before within = AllPairs-from_increasing lines ascending i j 0 before within

module _
    (lines : List ℕ) (ascending : IsStrictlyIncreasing lines) (runs : List Run) (order : AreInOrder runs) (mark : Span) (wide : mark.first < mark.end) (within : mark.end < length lines)
    (first end : ℕ) (first_in : first ≤ length runs) (end_in : end ≤ length runs)
    (before : AllWithin (λ run. run.right < slice_index lines mark.first) runs 0 first)
    (from : AllWithin (λ run. slice_index lines mark.first ≤ run.right) runs first (length runs))
    (up_to : AllWithin (λ run. run.left ≤ slice_index lines mark.end) runs 0 end)
    (after : AllWithin (λ run. slice_index lines mark.end < run.left) runs end (length runs)) where
  -- the runs that meet or touch the mark end where the first of them is, or after it
  onward : first ≤ end
  onward = elim (cases_lt end first) [
    | inl less ↦ (let d : Run = record { left = 0; right = 0; kind = 0; strip = 0 } in
        absurd (omega (arith, before end d (omega arith) less, after end d (le_refl end) (omega arith), order.wide end d (omega arith), strictly lines ascending mark.first mark.end wide within)))
    | inr more ↦ more
  ]

  -- a mark that no run meets or touches
  pub IsChangeOf-alone : end ≤ first → IsChangeOf lines runs mark mark (record { first = first; end = end })
  IsChangeOf-alone none =
      let up = strictly lines ascending mark.first mark.end wide within in
      let none_met : (line k : ℕ) (d : Run) → k < length runs → slice_index lines mark.first ≤ (get_or runs k d).right
      → (get_or runs k d).left ≤ slice_index lines mark.end → line < (get_or runs k d).left = λ line k d inside right left.
      elim (cases_lt k first) [
        | inl earlier ↦ absurd (omega (arith, before k d (omega arith) earlier))
        | inr later ↦ absurd (omega (arith, after k d (omega arith) inside))
      ] in
      record {
        within = within;
        first = le_refl mark.first;
        end = le_refl mark.end;
        onward = onward;
        met_within = end_in;
        apart_left = before;
        apart_right = after;
        left_out = λ k d low high. omega (arith, before k d low high);
        left_in = λ k d low high. omega (arith, after k d (omega arith) high);
        right_in = λ k d low high. omega (arith, before k d low (omega (arith, onward)));
        right_out = λ k d low high. omega (arith, after k d low high);
        clear = λ line. (
          λ less. record { begins = less; others = none_met line },
          λ is. is.begins,
        );
      }

  -- one with the runs that meet or touch it
  pub IsChangeOf-runs :
      (slots : Span) (left right : ℕ) → first < end → ((d : Run) → (get_or runs first d).left ≡ left) → ((d : Run) → (get_or runs (end - 1) d).right ≡ right)
      → slots.first < length lines → slots.end < length lines → slice_index lines slots.first ≡ min (slice_index lines mark.first) left
      → slice_index lines slots.end ≡ max (slice_index lines mark.end) right
      → IsChangeOf lines runs mark slots (record { first = first; end = end })
  IsChangeOf-runs slots left right some left_is right_is slots_first slots_end leftmost rightmost =
      let least : (k : ℕ) (d : Run) → first ≤ k → k < length runs → left ≤ (get_or runs k d).left = λ k d low high. omega (arith, (runs_ascend runs first k d order low high).0, left_is d) in
      let greatest : (k : ℕ) (d : Run) → k < end → (get_or runs k d).right ≤ right = λ k d high. omega (arith, (runs_ascend runs k (end - 1) d order (omega arith) (omega arith)).1, right_is d) in
      record {
        within = slots_end;
        first = elim (cases_lt mark.first slots.first) [
          | inl less ↦ absurd (omega (arith, leftmost, strictly lines ascending mark.first slots.first less slots_first))
          | inr more ↦ more
        ];
        end = elim (cases_lt slots.end mark.end) [
          | inl less ↦ absurd (omega (arith, rightmost, strictly lines ascending slots.end mark.end less within))
          | inr more ↦ more
        ];
        onward = onward;
        met_within = end_in;
        apart_left = before;
        apart_right = after;
        left_out = λ k d low high. omega (arith, leftmost, before k d low high, order.ordered k first d high (omega arith), left_is d);
        left_in = λ k d low high. omega (arith, leftmost, least k d low high);
        right_in = λ k d low high. omega (arith, rightmost, greatest k d high);
        right_out = λ k d low high. omega (arith, rightmost, after k d low high, order.ordered (end - 1) k d (omega arith) high, right_is d);
        clear = λ line. (
          λ less. record {
            begins = omega (arith, leftmost);
            others = λ k d inside right_from left_to. elim (cases_lt k first) [
              | inl earlier ↦ absurd (omega (arith, before k d (omega arith) earlier))
              | inr later ↦ omega (arith, leftmost, least k d later inside)
            ];
          },
          λ is. (let d : Run = record { left = 0; right = 0; kind = 0; strip = 0 } in
              omega (arith, leftmost, left_is d, is.begins, is.others first d (omega arith) (from first d (le_refl first) (omega arith)) (up_to first d (omega arith) some))),
        );
      }

module _
    (lines : List ℕ) (ascending : IsStrictlyIncreasing lines) (runs : List Run) (marks : List Span) (sorted : IsNonDecreasingBy (λ (mark : Span). mark.first) marks) (are : AreMarks lines marks) where
  -- what one mark changes
  pub AreMet-one :
      (from : ℕ) (mark slots met : Span) → from < length marks → ((d : Span) → get_or marks from d ≡ mark) → IsChangeOf lines runs mark slots met
      → AreMet lines runs marks from (from + 1) slots met
  AreMet-one from mark slots met inside is change =
      let later : (k : ℕ) (d : Span) → from ≤ k → k < length marks → mark.first ≤ (get_or marks k d).first = λ k d low high. rw (is d) at (sorted from k d low high) in
      let own : (k : ℕ) (d : Span) → from ≤ k → k < from + 1 → get_or marks k d ≡ mark = λ k d low high. (let same : k ≡ from = omega arith in rw same (is d)) in
      let self : (mark.first < mark.end) × (mark.end < length lines) = rw (is mark) at (are from mark inside) in
      record {
        more = omega arith;
        to_within = omega arith;
        wide = omega (arith, change.first, change.end, self.0);
        within = change.within;
        onward = change.onward;
        met_within = change.met_within;
        first = λ k d low high. omega (arith, change.first, later k d low high);
        end = λ k d low high. rw (own k d low high) change.end;
        apart_left = λ k d low high n e above below.
            omega (arith, change.apart_left n e above below, rises lines ascending mark.first (get_or marks k d).first (later k d low high) (omega (arith, are k d high)));
        apart_right = λ k d low high. rw (own k d low high) change.apart_right;
        left_out = change.left_out;
        left_in = change.left_in;
        right_in = change.right_in;
        right_out = change.right_out;
        begins = λ line clear. (change.clear line).1 (rw (is mark) at (clear mark));
      }

  -- and one more
  pub AreMet-more :
      (from to : ℕ) (mark slots met more more_met : Span) → to < length marks → ((d : Span) → get_or marks to d ≡ mark) → AreMet lines runs marks from to slots met
      → IsChangeOf lines runs mark more more_met
      → AreMet lines runs marks from (to + 1) (record { first = slots.first; end = max slots.end more.end }) (record { first = met.first; end = max met.end more_met.end })
  AreMet-more from to mark slots met more more_met inside is all change =
      let last : max slots.end more.end < length lines = omega (arith, all.within, change.within) in
      let up = rises lines ascending slots.end (max slots.end more.end) (omega arith) last in
      let up_more = rises lines ascending more.end (max slots.end more.end) (omega arith) last in
      record {
        more = omega (arith, all.more);
        to_within = omega arith;
        wide = omega (arith, all.wide);
        within = last;
        onward = omega (arith, all.onward);
        met_within = omega (arith, all.met_within, change.met_within);
        first = all.first;
        end = λ k d low high. elim (cases_lt k to) [
          | inl earlier ↦ omega (arith, all.end k d low earlier)
          | inr here ↦ (let same : k ≡ to = omega arith in rw (same, is d) (omega (arith, change.end)))
        ];
        apart_left = all.apart_left;
        apart_right = λ k d low high n e above below. elim (cases_lt k to) [
          | inl earlier ↦ all.apart_right k d low earlier n e (omega arith) below
          | inr here ↦ (let same : k ≡ to = omega arith in rw (same, is d) (change.apart_right n e (omega arith) below))
        ];
        left_out = all.left_out;
        left_in = all.left_in;
        right_in = λ k d low high. elim (cases_lt k met.end) [
          | inl earlier ↦ omega (arith, up, all.right_in k d low earlier)
          | inr later ↦ omega (arith, up_more, change.right_in k d low (omega arith))
        ];
        right_out = λ k d low high. elim (cases_lt slots.end more.end) [
          | inl further ↦ (let same : max slots.end more.end ≡ more.end = omega arith in rw same (change.right_out k d (omega arith) high))
          | inr nearer ↦ (let same : max slots.end more.end ≡ slots.end = omega arith in rw same (all.right_out k d (omega arith) high))
        ];
        begins = all.begins;
      }

  -- a mark whose slots lie right of these ends the change
  pub IsChange-apart :
      (from to : ℕ) (mark slots met more more_met : Span) → to < length marks → ((d : Span) → get_or marks to d ≡ mark) → AreMet lines runs marks from to slots met
      → IsChangeOf lines runs mark more more_met → slots.end < more.first → IsChange lines runs marks from to slots met
  IsChange-apart from to mark slots met more more_met inside is all change apart =
      let self : (mark.first < mark.end) × (mark.end < length lines) = rw (is mark) at (are to mark inside) in
      record {
        all = all;
        next = λ less d. rw (is d) ((change.clear (slice_index lines slots.end)).0 (strictly lines ascending slots.end more.first apart (omega (arith, change.first))));
      }
