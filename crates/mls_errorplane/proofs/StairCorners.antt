-- The corners of pictures that agree in some columns of some rows.
use Rattle.std.proofs.Common.{◌≡◌, ◌⊎◌, ℕ, zero, suc, ◌+◌, ◌-◌, ◌<◌, ◌≤◌, ◌==◌, ◌&&◌, Bool, true, false, not, cond, [], nat_le, nat_lt, refl, sym, ap, ◌∙◌, inl, inr, le_refl, arith, eq-eqb, ne_eqb, eqb-true, lt-ltb, sum_by, le-leb, le-ltb, leb-true, ltb-true}
use Rattle.std.specs.List.{prefix_len, range_with_len}
use Rattle.std.proofs.lemmas.Bool.{and_from, and_left, and_parts, both_ways, cases_Bool, cases_lt, cond-false, cond-true, eqb-false, false_from_ne_true, not-true, not_from_false, or_left}
use Rattle.std.proofs.lemmas.List.Sums.{sum_by-cons}
use Rattle.mls_errorplane.specs.Common.{Picture, Rect, goes_on_below, is_corner, run_end, starts_run}
use Rattle.mls_geom.proofs.CornerCounts.{sum_by-cut}
use Rattle.mls_geom.proofs.RunTests.{IsRun-from_tests, front, front_begins, front_ends, front_passes, front_stops, left-starts_run}

-- 1 at a corner, and 0 elsewhere
abbrev pub corner : Rect → Picture → ℕ → ℕ → ℕ
corner extent picture x y = cond (is_corner extent picture x y) 1 0

-- ---- from a column on
-- tests that agree from a number on have as many numbers in front
prefix_len-agree : (p q : ℕ → Bool) (low n : ℕ) → ((z : ℕ) → low ≤ z → z < low + n → p z ≡ q z) → prefix_len p (range_with_len low n) ≡ prefix_len q (range_with_len low n)
prefix_len-agree p q low zero same = refl
prefix_len-agree p q low (suc n) same =
    let here = same low (le_refl low) (omega arith) in
    let rest = prefix_len-agree p q (low + 1) n (λ z from to. same z (omega (arith, from)) (omega (arith, to))) in
    rw (here, rest) refl

-- two pictures agree in a row from the column before one on
abbrev pub AgreeFrom : Picture → Picture → ℕ → ℕ → Type 0
AgreeFrom p q x y = (z : ℕ) → x ≤ z + 1 → p z y ≡ q z y

run_end-agree : (extent : Rect) (p q : Picture) (x y : ℕ) → AgreeFrom p q x y → run_end extent p x y ≡ run_end extent q x y
run_end-agree extent p q x y same =
    let here = same x (omega arith) in
    ap (λ n. x + n) (prefix_len-agree (λ z. p z y == p x y) (λ z. q z y == q x y) x (extent.right - x)
    (λ z from _. let there = same z (omega (arith, from)) in rw (there, here) refl))

pub starts_run-agree : (extent : Rect) (p q : Picture) (x y : ℕ) → p (x - 1) y ≡ q (x - 1) y → p x y ≡ q x y → starts_run extent p x y ≡ starts_run extent q x y
starts_run-agree extent p q x y before here = rw (before, here) refl

-- so they have the same corners there
pub is_corner-agree :
    (extent : Rect) (p q : Picture) (x y : ℕ) → AgreeFrom p q x y → AgreeFrom p q x (y - 1) → is_corner extent p x y ≡ is_corner extent q x y
is_corner-agree extent p q x y same below =
    let starts = starts_run-agree extent p q x y (same (x - 1) (omega arith)) (same x (omega arith)) in
    let starts_below = starts_run-agree extent p q x (y - 1) (below (x - 1) (omega arith)) (below x (omega arith)) in
    let ends = run_end-agree extent p q x y same in
    let ends_below = run_end-agree extent p q x (y - 1) below in
    let here = same x (omega arith) in
    let under = below x (omega arith) in
    rw (starts, starts_below, ends, ends_below, here, under) refl

-- the extent's rows from one on
abbrev pub from_row : Rect → ℕ → Rect
from_row extent base = record extent { bottom = base }

-- a corner above its lowest row is one of the whole extent
pub is_corner-from_row :
    (extent : Rect) (picture : Picture) (base x y : ℕ) → extent.bottom ≤ base → base < y → is_corner (from_row extent base) picture x y ≡ is_corner extent picture x y
is_corner-from_row extent picture base x y from over =
    let part = lt-ltb base y over in
    let whole = lt-ltb extent.bottom y (omega (arith, from, over)) in
    rw (part, whole) refl

-- ---- a row as the one below
-- a row is as the one below it in the columns of the extent
abbrev pub IsAsBelow : Rect → Picture → ℕ → Type 0
IsAsBelow extent picture y = (x : ℕ) → extent.left ≤ x → x < extent.right → picture x y ≡ picture x (y - 1)

starts_run-below :
    (extent : Rect) (picture : Picture) (x y : ℕ) → extent.left ≤ x → x < extent.right → IsAsBelow extent picture y → starts_run extent picture x y ≡ true
    → starts_run extent picture x (y - 1) ≡ true
starts_run-below extent picture x y from within same starts = elim (cases_lt extent.left x) [
  | inl inside ↦ (let before = same (x - 1) (omega (arith, inside)) (omega (arith, within)) in let here = same x from within in rw (before, here) at starts)
  | inr first ↦ or_left _ _ (eq-eqb x extent.left (omega (arith, from, first)))
]

-- it has no corner
pub corner-IsAsBelow :
    (extent : Rect) (picture : Picture) (x y : ℕ) → extent.left ≤ x → x < extent.right → extent.bottom < y → IsAsBelow extent picture y → corner extent picture x y ≡ 0
corner-IsAsBelow extent picture x y from within over same =
    let goes_on = λ (starts : starts_run extent picture x y ≡ true).
    let here = same x from within in
    let ends : run_end extent picture x (y - 1) ≡ run_end extent picture x y =
    ap (λ n. x + n) (prefix_len-agree (λ z. picture z (y - 1) == picture x (y - 1)) (λ z. picture z y == picture x y) x (extent.right - x)
    (λ z right to. let there = same z (omega (arith, from, right)) (omega (arith, within, to)) in rw (there, here) refl)) in
    and_from _ _ (and_from _ _ (and_from _ _ (lt-ltb extent.bottom y over) (starts_run-below extent picture x y from within same starts))
    (eq-eqb (picture x (y - 1)) (picture x y) (sym here))) (eq-eqb (run_end extent picture x (y - 1)) (run_end extent picture x y) ends) in
    cond-false {A = ℕ} (is_corner extent picture x y) 1 0
    (false_from_ne_true (is_corner extent picture x y)
    (λ is.
    let tests = and_parts (starts_run extent picture x y) (not (goes_on_below extent picture x y)) is in
    both_ways (goes_on_below extent picture x y) (not-true _ tests.1) (goes_on tests.0)))

-- ---- left of a column
-- two pictures agree in a row left of a column
abbrev pub AgreeLeft : Picture → Picture → ℕ → ℕ → Type 0
AgreeLeft p q cut y = (z : ℕ) → z < cut → p z y ≡ q z y

-- a run of the one that ends there is one of the other
run_end-left :
    (extent : Rect) (p q : Picture) (cut x y : ℕ) → x < extent.right → x < cut → AgreeLeft p q cut y → run_end extent p x y < cut
    → run_end extent q x y ≡ run_end extent p x y
run_end-left extent p q cut x y within left same before =
    let passes = λ (z : ℕ). p z y == p x y in
    let here = same x left in
    let begins = front_begins passes x extent.right within (eq-eqb (p x y) (p x y) refl) in
    front (λ z. q z y == q x y) x extent.right (run_end extent p x y) (omega (arith, begins)) (front_ends passes x extent.right (omega (arith, within)))
    (λ z above below.
    eq-eqb (q z y) (q x y)
    (sym (same z (omega (arith, below, before))) ∙ eqb-true (p z y) (p x y) (front_passes passes x extent.right z (omega (arith, within)) above below) ∙ here))
    (λ below.
    ne_eqb (q (run_end extent p x y) y) (q x y)
    (λ is.
    eqb-false (p (run_end extent p x y) y) (p x y) (front_stops passes x extent.right (omega (arith, within)) below)
    (same (run_end extent p x y) before ∙ is ∙ sym here)))

goes_on_below-left :
    (extent : Rect) (p q : Picture) (cut x y : ℕ) → x < extent.right → x < cut → AgreeLeft p q cut y → AgreeLeft p q cut (y - 1) → run_end extent p x y < cut
    → goes_on_below extent p x y ≡ true → goes_on_below extent q x y ≡ true
goes_on_below-left extent p q cut x y within left same below before goes_on =
    let started = nat_lt extent.bottom y && starts_run extent p x (y - 1) in
    let tests = and_parts (started && p x (y - 1) == p x y) (run_end extent p x (y - 1) == run_end extent p x y) goes_on in
    let three = and_parts started (p x (y - 1) == p x y) tests.0 in
    let two = and_parts (nat_lt extent.bottom y) (starts_run extent p x (y - 1)) three.0 in
    let ends = eqb-true (run_end extent p x (y - 1)) (run_end extent p x y) tests.1 in
    let starts = sym (starts_run-agree extent p q x (y - 1) (below (x - 1) (omega (arith, left))) (below x left)) ∙ two.1 in
    let kinds = sym (below x left) ∙ eqb-true (p x (y - 1)) (p x y) three.1 ∙ same x left in
    let end = run_end-left extent p q cut x y within left same before in
    let end_below = run_end-left extent p q cut x (y - 1) within left below (omega (arith, ends, before)) in
    and_from _ _ (and_from _ _ (and_from _ _ two.0 starts) (eq-eqb (q x (y - 1)) (q x y) kinds))
    (eq-eqb (run_end extent q x (y - 1)) (run_end extent q x y) (end_below ∙ ends ∙ sym end))

-- so a corner of the other whose run ends there is one of the one
is_corner-left :
    (extent : Rect) (p q : Picture) (cut x y : ℕ) → x < extent.right → x < cut → AgreeLeft p q cut y → AgreeLeft p q cut (y - 1) → run_end extent p x y < cut
    → is_corner extent q x y ≡ true → is_corner extent p x y ≡ true
is_corner-left extent p q cut x y within left same below before is =
    let tests = and_parts (starts_run extent q x y) (not (goes_on_below extent q x y)) is in
    let starts = starts_run-agree extent p q x y (same (x - 1) (omega (arith, left))) (same x left) ∙ tests.0 in
    let stands = false_from_ne_true (goes_on_below extent p x y)
    (λ on. both_ways (goes_on_below extent q x y) (not-true _ tests.1) (goes_on_below-left extent p q cut x y within left same below before on)) in
    and_from _ _ starts (not_from_false _ stands)

-- the square is left of the column, and the leftmost of a run that reaches it
abbrev pub touches_cut : Rect → Picture → ℕ → ℕ → ℕ → Bool
touches_cut extent picture cut y x = nat_lt x cut && starts_run extent picture x y && nat_le cut (run_end extent picture x y)

one_of_two : (a b c : Bool) → (a ≡ true → (b ≡ true) ⊎ (c ≡ true)) → cond {A = ℕ} a 1 0 ≤ cond b 1 0 + cond c 1 0
one_of_two false b c one = omega arith
one_of_two true b c one = elim (one refl) [
  | inl first ↦ rw first (omega arith)
  | inr second ↦ rw second (omega arith)
]

-- so each corner of the other is one of the one, or touches the column
pub corner-left :
    (extent : Rect) (p q : Picture) (cut x y : ℕ) → x < extent.right → x < cut → AgreeLeft p q cut y → AgreeLeft p q cut (y - 1)
    → corner extent q x y ≤ corner extent p x y + cond (touches_cut extent p cut y x) 1 0
corner-left extent p q cut x y within left same below =
    one_of_two (is_corner extent q x y) (is_corner extent p x y) (touches_cut extent p cut y x)
    (λ is. elim (cases_lt (run_end extent p x y) cut) [
      | inl before ↦ inl (is_corner-left extent p q cut x y within left same below before is)
      | inr reaches ↦
          let tests = and_parts (starts_run extent q x y) (not (goes_on_below extent q x y)) is in
          let starts = starts_run-agree extent p q x y (same (x - 1) (omega (arith, left))) (same x left) ∙ tests.0 in
          inr (and_from _ _ (and_from _ _ (lt-ltb x cut left) starts) (le-leb cut (run_end extent p x y) reaches))
    ])

-- a row has one such square at most
pub touches_cut-once :
    (extent : Rect) (picture : Picture) (cut y i j : ℕ) → extent.left ≤ i → i < j → j < extent.right → touches_cut extent picture cut y i ≡ true
    → touches_cut extent picture cut y j ≡ true → ⊥
touches_cut-once extent picture cut y i j from before to here there =
    let first = and_parts (nat_lt i cut && starts_run extent picture i y) (nat_le cut (run_end extent picture i y)) here in
    let second = and_parts (nat_lt j cut && starts_run extent picture j y) (nat_le cut (run_end extent picture j y)) there in
    let starts = and_parts (nat_lt i cut) (starts_run extent picture i y) first.0 in
    let starts' = and_parts (nat_lt j cut) (starts_run extent picture j y) second.0 in
    let reaches = leb-true cut (run_end extent picture i y) first.1 in
    let left = ltb-true j cut starts'.0 in
    let run = IsRun-from_tests extent picture i y from (omega (arith, before, to)) starts.1 in
    let same =
    left-starts_run extent picture i (run_end extent picture i y) y (picture i y) j run (omega (arith, before)) (omega (arith, left, reaches)) starts'.1 in
    omega (arith, same, before)

-- ---- down a column
-- under each square that starts a run there is a corner
corner_from_start :
    (extent : Rect) (picture : Picture) (x y : ℕ) → starts_run extent picture x y ≡ true → goes_on_below extent picture x y ≡ false → corner extent picture x y ≡ 1
corner_from_start extent picture x y starts stands = cond-true {A = ℕ} (is_corner extent picture x y) 1 0 (and_from _ _ starts (not_from_false _ stands))

lowest_row : (extent : Rect) (picture : Picture) (x y : ℕ) → y ≤ extent.bottom → goes_on_below extent picture x y ≡ false
lowest_row extent picture x y low = and_left _ _ (and_left _ _ (and_left _ _ (le-ltb extent.bottom y low)))

start_below : (extent : Rect) (picture : Picture) (x y : ℕ) → goes_on_below extent picture x y ≡ true → starts_run extent picture x (y - 1) ≡ true
start_below extent picture x y goes_on =
    let kinds = nat_lt extent.bottom y && starts_run extent picture x (y - 1) && picture x (y - 1) == picture x y in
    let tests = and_parts kinds (run_end extent picture x (y - 1) == run_end extent picture x y) goes_on in
    let three = and_parts (nat_lt extent.bottom y && starts_run extent picture x (y - 1)) (picture x (y - 1) == picture x y) tests.0 in
    (and_parts (nat_lt extent.bottom y) (starts_run extent picture x (y - 1)) three.0).1

corner_under :
    (extent : Rect) (picture : Picture) (x n : ℕ) → starts_run extent picture x (extent.bottom + n) ≡ true
    → 1 ≤ sum_by (corner extent picture x) (range_with_len extent.bottom (n + 1))
corner_under extent picture x zero starts =
    let lowest : extent.bottom + 0 ≡ extent.bottom = omega arith in
    let one = corner_from_start extent picture x extent.bottom (rw lowest at starts) (lowest_row extent picture x extent.bottom (le_refl extent.bottom)) in
    let first = sum_by-cons (corner extent picture x) extent.bottom [] in
    omega (arith, one, first)
corner_under extent picture x (suc n) starts =
    let last = sum_by-cut (corner extent picture x) extent.bottom (n + 1) 1 (suc n + 1) (omega arith) in
    let next : extent.bottom + suc n ≡ extent.bottom + (n + 1) = omega arith in
    let one = sum_by-cons (corner extent picture x) (extent.bottom + (n + 1)) [] in
    elim (cases_Bool (goes_on_below extent picture x (extent.bottom + suc n))) [
      | inl on ↦
          let below : (extent.bottom + suc n) - 1 ≡ extent.bottom + n = omega arith in
          let rest = corner_under extent picture x n (rw below at (start_below extent picture x (extent.bottom + suc n) on)) in
          omega (arith, last, rest)
      | inr stands ↦
          let here = corner_from_start extent picture x (extent.bottom + suc n) starts stands in
          omega (arith, last, one, rw next at here)
    ]

-- so where two pictures agree whether a square starts a run, a corner of the one is at most the corners of the other from a row up to its own
pub corner_above_corners :
    (extent : Rect) (p q : Picture) (base x y : ℕ) → starts_run extent p x y ≡ starts_run extent q x y → base ≤ y
    → corner extent p x y ≤ sum_by (corner (from_row extent base) q x) (range_with_len base ((y + 1) - base))
corner_above_corners extent p q base x y same from = elim (cases_Bool (is_corner extent p x y)) [
  | inl is ↦
      let row : base + (y - base) ≡ y = omega (arith, from) in
      let rows : (y - base) + 1 ≡ (y + 1) - base = omega (arith, from) in
      let tests = and_parts (starts_run extent p x y) (not (goes_on_below extent p x y)) is in
      let starts : starts_run extent q x (base + (y - base)) ≡ true = rw row (sym same ∙ tests.0) in
      let some = corner_under (from_row extent base) q x (y - base) starts in
      let one = cond-true {A = ℕ} (is_corner extent p x y) 1 0 is in
      omega (arith, one, rw rows at some)
  | inr none ↦ (let nothing = cond-false {A = ℕ} (is_corner extent p x y) 1 0 none in omega (arith, nothing))
]
