-- Slots that show alike, up to where that ends, are a run of the row, or uncovered.
use Rattle.mls_geom.proofs.Common.{◌≡◌, ◌≢◌, ℕ, ◌+◌, ◌-◌, ◌<◌, ◌≤◌, ◌==◌, Bool, true, false, not, nat_eq, if◌then◌else◌, Option, Some, None, List, length, slice_index, inl, inr, refl, sym, ap, ◌∙◌, le_refl, arith, option_eq, cases_lt, false≢true, not-false, not-true, nat_tests, AllPairs-from_increasing}
use Rattle.mls_geom.proofs.Definitions.{uncovered, Picture, IsRun, IsEnd, ShowsSlots, kind_if_covered, AreCuts, IsTop, kind_shown, world, Span, Tree}
use Rattle.mls_geom.proofs.CutLines.{rises, slot_at}

-- a kind that is shown, and `uncovered` where none is
abbrev kind_or_uncovered : Option ℕ → ℕ
kind_or_uncovered None = uncovered
kind_or_uncovered (Some kind) = kind

-- a test for `uncovered` loses no kind
of_test : (β : Bool) (kind : ℕ) → (β ≡ true → kind ≡ uncovered) → kind_or_uncovered (if β then None else Some kind) ≡ kind
of_test true kind is = sym (is refl)
of_test false kind is = refl

-- what is shown of a square says which kind it has
kind_from_shown : (kind : ℕ) → kind_or_uncovered (kind_if_covered kind) ≡ kind
kind_from_shown kind = of_test (kind == uncovered) kind (λ same. grind (arith, nat_tests))

module _
    (tree : Tree) (lines : List ℕ) (picture : Picture) (present : ℕ → Bool) (y : ℕ) (slots : Span) (cuts : AreCuts world lines) (shown : ShowsSlots tree lines picture present y slots)
    (in_row : slots.end < length lines) (kind : Option ℕ) (first end : ℕ) (wide : first < end) (to : end ≤ slots.end)
    (shows : (s : ℕ) → first ≤ s → s < end → (rank : ℕ) × IsTop tree.segments.items present s rank × (kind ≡ kind_shown tree.segments.items rank)) where
  -- each square between the lines has the kind that is shown
  square_shown : (x : ℕ) → slice_index lines first ≤ x → x < slice_index lines end → kind ≡ kind_if_covered (picture x y)
  square_shown x after before =
      let there : first + (end - first) ≡ end = omega arith in
      let found = slot_at lines x first (end - first) after (rw there before) in
      let (rank, top, is) = shows found.0 found.1 (omega (arith, found.2)) in
      is ∙ shown.shows found.0 x rank (omega (arith, found.2)) found.3 found.4 top

  square_kind : (x : ℕ) → slice_index lines first ≤ x → x < slice_index lines end → picture x y ≡ kind_or_uncovered kind
  square_kind x after before = sym (ap kind_or_uncovered (square_shown x after before) ∙ kind_from_shown (picture x y))

  lines_rise : slice_index lines first < slice_index lines end
  lines_rise = AllPairs-from_increasing lines cuts.ascending first end 0 wide (omega arith)

  -- where another kind follows, runs end
  pub IsEnd-changes :
      (end < slots.end → (rank : ℕ) × IsTop tree.segments.items present end rank × (kind ≢ kind_shown tree.segments.items rank)) → IsEnd picture y (slice_index lines end)
  IsEnd-changes changes = elim (cases_lt end slots.end) [
    | inl inner ↦ λ left right same.
        (let (rank, top, differs) = changes inner in
        let up = AllPairs-from_increasing lines cuts.ascending end (end + 1) 0 (omega arith) (omega arith) in
        let here = shown.shows end (slice_index lines end) rank (omega arith) (le_refl (slice_index lines end)) up top in
        let before = square_shown (slice_index lines end - 1) (omega (arith, lines_rise)) (omega (arith, lines_rise)) in
        absurd (differs (before ∙ ap kind_if_covered same ∙ sym here)))
    | inr last ↦ (let same : end ≡ slots.end = omega arith in rw same shown.right)
  ]

  -- from one such end to another, a kind is a run
  IsRun-shown :
      (k : ℕ) → kind ≡ Some k → k < uncovered → IsEnd picture y (slice_index lines first) → IsEnd picture y (slice_index lines end)
      → IsRun world picture (slice_index lines first) (slice_index lines end) y k
  IsRun-shown k is byte left right =
      let from : world.left ≤ slice_index lines first = omega (arith, cuts.first, rises lines cuts.ascending 0 first (omega arith) (omega arith)) in
      let up_to : slice_index lines end ≤ world.right = omega (arith, cuts.last, rises lines cuts.ascending end (length lines - 1) (omega arith) (omega arith)) in
      let one : (x : ℕ) → slice_index lines first ≤ x → x < slice_index lines end → picture x y ≡ k = λ x after before. square_kind x after before ∙ ap kind_or_uncovered is in
      record {
        from = from;
        wide = lines_rise;
        to = up_to;
        one_kind = one;
        ends_left = λ inside same.
            (let here = one (slice_index lines first) (le_refl (slice_index lines first)) lines_rise in
            absurd (omega (arith, here, left inside (omega (arith, lines_rise, up_to)) (same ∙ sym here), byte)));
        ends_right = λ inside same.
            (let here = one (slice_index lines end - 1) (omega (arith, lines_rise)) (omega (arith, lines_rise)) in
            absurd (omega (arith, same, right (omega (arith, lines_rise, from)) inside (here ∙ sym same), byte)));
      }

  -- the run, and that at its right line runs end
  pub run_shown :
      (k : ℕ) → kind ≡ Some k → k < uncovered → IsEnd picture y (slice_index lines first)
      → (end < slots.end → (rank : ℕ) × IsTop tree.segments.items present end rank × (kind ≢ kind_shown tree.segments.items rank))
      → IsRun world picture (slice_index lines first) (slice_index lines end) y k × IsEnd picture y (slice_index lines end)
  run_shown k is byte left changes = (IsRun-shown k is byte left (IsEnd-changes changes), IsEnd-changes changes)

  pub uncovered-shown : kind ≡ None → (x : ℕ) → slice_index lines first ≤ x → x < slice_index lines end → picture x y ≡ uncovered
  uncovered-shown is x after before = square_kind x after before ∙ ap kind_or_uncovered is

-- what the test of two kinds says
pub same_from_test : (a b : Option ℕ) → not (option_eq nat_eq a b) ≡ false → a ≡ b
same_from_test None None is = refl
same_from_test None (Some y) is = absurd (false≢true (sym is))
same_from_test (Some x) None is = absurd (false≢true (sym is))
same_from_test (Some x) (Some y) is =
    let same : x ≡ y = (let test = not-false (nat_eq x y) is in grind (arith, nat_tests)) in
    ap Some same

-- what tells two options apart
kind_inside : Option ℕ → ℕ
kind_inside None = 0
kind_inside (Some k) = k

is_there : Option ℕ → Bool
is_there None = false
is_there (Some k) = true

pub differ_from_test : (a b : Option ℕ) → not (option_eq nat_eq a b) ≡ true → a ≢ b
unfolding is_there kind_inside
differ_from_test None None is same = false≢true is
differ_from_test None (Some y) is same = false≢true (ap is_there same)
differ_from_test (Some x) None is same = false≢true (sym (ap is_there same))
differ_from_test (Some x) (Some y) is same =
    let equal : x ≡ y = ap kind_inside same in
    let test = not-true (nat_eq x y) is in
    absurd (grind (arith, nat_tests))
