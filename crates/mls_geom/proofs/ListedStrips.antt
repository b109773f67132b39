-- The list that is made from the squares of a picture has its strips.
use Rattle.mls_geom.proofs.Common.{◌≡◌, ℕ, zero, suc, ◌+◌, ◌-◌, ◌<◌, ◌≤◌, ◌==◌, true, false, not, IsTrue, get_or, Any, Contains, sym, ap, subst, ⊎_elim, ◌∙◌, le_refl, arith, and_from, and_parts, both_ways, cases_Bool, cases_lt, eq-eqb, eqb-true, false_from_ne_true, not_from_false, not-false, not-true, or_left, or_parts, All-map}
use Rattle.mls_geom.proofs.Definitions.{Rect, holds, Picture, has_run_of, rows_end, strip_from, strips_of, IsRun, IsStrip, AreStrips, comes_before, goes_on_below, is_corner, run_end, starts_run, Piece}
use Rattle.mls_geom.proofs.Ascending.{AllPairs-map, Contains-map}
use Rattle.mls_geom.proofs.Holds.{holds_between, between_holds}
use Rattle.mls_geom.proofs.RunTests.{IsRun-below, IsRun-from_tests, front_begins, front_ends, front_passes, front_stops, goes_on_below-IsRun, run_end-IsRun, starts_run-IsRun}
use Rattle.mls_geom.proofs.Squares.{StandsBefore}
use Rattle.mls_geom.proofs.StripLaws.{All-corners, corner_there, corners, corners_ascend}
use Rattle.mls_geom.proofs.StripLists.{IsRun-has_run_of, has_run_of-IsRun, strips_of-corners}

module _ (extent : Rect) (picture : Picture) where
  -- ---- each is a strip
  -- what is made from a corner is a strip
  IsStrip-strip_from : (x y : ℕ) → holds extent x y ≡ true → is_corner extent picture x y ≡ true → IsStrip extent picture (strip_from extent picture x y)
  unfolding strip_from
  IsStrip-strip_from x y inside corner =
      let lines = holds_between extent x y inside in
      let tests = and_parts (starts_run extent picture x y) (not (goes_on_below extent picture x y)) corner in
      let right = run_end extent picture x y in
      let kind = picture x y in
      let top = rows_end extent picture x y in
      let same = λ (z : ℕ). has_run_of extent picture x y z in
      let run : IsRun extent picture x right y kind = IsRun-from_tests extent picture x y lines.0 lines.1 tests.0 in
      let up : y ≤ extent.top = omega (arith, lines.3) in
      record {
        from = lines.2;
        tall = front_begins same y extent.top lines.3 (has_run_of-IsRun extent picture x right y y kind run run);
        to = front_ends same y extent.top up;
        rows = λ z above below. IsRun-has_run_of extent picture x right y z kind run (front_passes same y extent.top z up above below);
        ends_below = λ below lower.
            both_ways (goes_on_below extent picture x y) (not-true (goes_on_below extent picture x y) tests.1) (goes_on_below-IsRun extent picture x right y kind below run lower);
        ends_above = λ below higher. both_ways (same top) (front_stops same y extent.top up below) (has_run_of-IsRun extent picture x right y top kind run higher);
      }

  -- ---- each square is in one
  -- the run of a square
  abbrev RunOf : ℕ → ℕ → Type 0
  RunOf x y = (left : ℕ) × (right : ℕ) × (kind : ℕ) × IsRun extent picture left right y kind × (left ≤ x) × (x < right)

  run_here : (x y : ℕ) → extent.left ≤ x → x < extent.right → starts_run extent picture x y ≡ true → RunOf x y
  run_here x y from within starts =
      let run = IsRun-from_tests extent picture x y from within starts in
      (x, run_end extent picture x y, picture x y, run, le_refl x, run.wide)

  run_next : (x y : ℕ) → extent.left < x → x < extent.right → starts_run extent picture x y ≡ false → RunOf (x - 1) y → RunOf x y
  run_next x y from within inner (left, right, kind, run, above, below) =
      let parts = or_parts (x == extent.left) (not (picture (x - 1) y == picture x y)) inner in
      let goes_on : picture (x - 1) y ≡ picture x y = eqb-true (picture (x - 1) y) (picture x y) (not-false (picture (x - 1) y == picture x y) parts.1) in
      let here : x < right = ⊎_elim
      (λ (inside : x < right). inside)
      (λ (past : right ≤ x).
      let same : right ≡ x = omega arith in
      absurd (run.ends_right (omega arith) (ap (λ z. picture z y) same ∙ sym goes_on ∙ run.one_kind (x - 1) above below)))
      (cases_lt x right) in
      (left, right, kind, run, omega arith, here)

  run_of : (n x y : ℕ) → x ≡ extent.left + n → x < extent.right → RunOf x y
  run_of zero x y at within = run_here x y (omega arith) within (or_left (x == extent.left) (not (picture (x - 1) y == picture x y)) (eq-eqb x extent.left (omega arith)))
  run_of (suc n) x y at within =
      let before = run_of n (x - 1) y (omega arith) (omega arith) in
      ⊎_elim (λ (starts : starts_run extent picture x y ≡ true). run_here x y (omega arith) within starts)
      (λ (inner : starts_run extent picture x y ≡ false). run_next x y (omega arith) within inner before) (cases_Bool (starts_run extent picture x y))

  -- the lowest row of a run's strip
  abbrev CornerOf : ℕ → ℕ → ℕ → ℕ → Type 0
  CornerOf left right kind y = (low : ℕ) × (extent.bottom ≤ low) × (low ≤ y) × (is_corner extent picture left low ≡ true) × ((z : ℕ) → low ≤ z → z ≤ y → IsRun extent picture left right z kind)

  module _ (left right kind : ℕ) where
    corner_here : (y : ℕ) → extent.bottom ≤ y → IsRun extent picture left right y kind → goes_on_below extent picture left y ≡ false → CornerOf left right kind y
    corner_here y from run ends = (
      y,
      from,
      le_refl y,
      and_from (starts_run extent picture left y) (not (goes_on_below extent picture left y)) (starts_run-IsRun extent picture left right y kind run) (not_from_false _ ends),
      λ z above below. let same : y ≡ z = omega (arith, above, below) in subst (λ w. IsRun extent picture left right w kind) same run,
    )

    corner_below : (y : ℕ) → extent.bottom < y → IsRun extent picture left right y kind → CornerOf left right kind (y - 1) → CornerOf left right kind y
    corner_below y from run (low, bottom, under, corner, runs) = (
      low,
      bottom,
      omega arith,
      corner,
      λ z above below. ⊎_elim
          (λ (lower : z < y). runs z above (omega (arith, lower)))
          (λ (top : y ≤ z). let same : y ≡ z = omega (arith, top, below) in subst (λ w. IsRun extent picture left right w kind) same run)
          (cases_lt z y),
    )

    corner_from : (n y : ℕ) → y ≡ extent.bottom + n → IsRun extent picture left right y kind → CornerOf left right kind y
    corner_from zero y at run =
        corner_here y (omega arith) run (false_from_ne_true _ (λ goes_on. omega (arith, at, (IsRun-below extent picture left right y kind run goes_on).0)))
    corner_from (suc n) y at run = ⊎_elim
        (λ (goes_on : goes_on_below extent picture left y ≡ true).
        corner_below y (omega arith) run (corner_from n (y - 1) (omega arith) (IsRun-below extent picture left right y kind run goes_on).1))
        (corner_here y (omega arith) run)
        (cases_Bool (goes_on_below extent picture left y))

  -- a square lies in the strip of its corner
  holds-strip_from : (x y left right kind low : ℕ) → holds extent x y ≡ true → left ≤ x → x < right → low ≤ y
      → ((z : ℕ) → low ≤ z → z ≤ y → IsRun extent picture left right z kind) → holds (strip_from extent picture left low).rect x y ≡ true
  unfolding strip_from
  holds-strip_from x y left right kind low inside from below under runs =
      let lines = holds_between extent x y inside in
      let run = runs low (le_refl low) under in
      let same = λ (z : ℕ). has_run_of extent picture left low z in
      let top = rows_end extent picture left low in
      let ends : run_end extent picture left low ≡ right = run_end-IsRun extent picture left right low kind run in
      let up : low ≤ extent.top = omega (arith, lines.3) in
      let above : y < top = ⊎_elim
      (λ (inside : y < top). inside)
      (λ (past : top ≤ y).
      absurd (both_ways (same top) (front_stops same low extent.top up (omega (arith, lines.3))) (has_run_of-IsRun extent picture left right low top kind run (runs top (omega arith) past))))
      (cases_lt y top) in
      between_holds (record { left = left; bottom = low; right = run_end extent picture left low; top = top }) x y from (omega (arith, ends)) under above

  abbrev made : ℕ × ℕ → Piece
  made s = strip_from extent picture s.0 s.1

  found_strip : (x y : ℕ) → holds extent x y ≡ true → Any (λ piece. holds piece.rect x y ≡ true) (strips_of extent picture)
  found_strip x y inside =
      let lines = holds_between extent x y inside in
      let (left, right, kind, run, from, below) = run_of (x - extent.left) x y (omega (arith, lines.0)) lines.1 in
      let (low, bottom, under, corner, runs) = corner_from left right kind (y - extent.bottom) y (omega (arith, lines.2)) run in
      let within : holds extent left low ≡ true = between_holds extent left low run.from (omega (arith, run.wide, run.to)) bottom (omega (arith, lines.3)) in
      let there = Contains-map made (corners extent picture) (left, low) (corner_there extent picture left low within corner) in
      let (k, in_list, is) = subst (λ list. Contains list (made (left, low))) (strips_of-corners extent picture) there in
      (k, made (left, low), in_list, is, holds-strip_from x y left right kind low inside from below under runs)

  -- ---- in order
  comes_before-made : (s t : ℕ × ℕ) → StandsBefore s t → IsTrue (comes_before (made s) (made t))
  unfolding strip_from
  comes_before-made s t before = before

  -- the list has the strips of the picture
  pub AreStrips-strips_of : AreStrips extent picture (strips_of extent picture)
  AreStrips-strips_of = subst (AreStrips extent picture) (strips_of-corners extent picture) (record {
    each = All-map (IsStrip extent picture) made (corners extent picture) (All-corners (λ s. IsStrip extent picture (made s)) extent picture IsStrip-strip_from);
    whole = λ x y inside. subst (Any (λ piece. holds piece.rect x y ≡ true)) (sym (strips_of-corners extent picture)) (found_strip x y inside);
    ordered =
        AllPairs-map (λ p q. IsTrue (comes_before p q)) made (corners extent picture)
        (λ i j d before within. comes_before-made (get_or (corners extent picture) i d) (get_or (corners extent picture) j d) (corners_ascend extent picture i j d before within));
  })
