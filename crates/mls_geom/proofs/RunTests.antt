-- Runs of a row by their record and by the tests on squares.
use Rattle.mls_geom.proofs.Common.{◌≡◌, ℕ, ◌+◌, ◌-◌, ◌<◌, ◌≤◌, Bool, true, false, ◌==◌, length, refl, sym, ap, subst₂, ◌∙◌, le_refl, lt_of_lt_of_le, arith, lt-ltb, ltb-true, eq-eqb, ne_eqb, eqb-true, prefix_len, range_with_len, eqb-false, and_from, and_parts, nat_tests, length-range_with_len, get_or-range_with_len, prefix_len_is, prefix_len_passes, prefix_len_stops, prefix_len-drop_yes, prefix_len-le-length}
use Rattle.mls_geom.proofs.Definitions.{Rect, Picture, IsRun, starts_run, run_end, goes_on_below}

-- of the numbers from one line to another the first ones pass a test: they end at the number before which all pass, and which does not
pub front : (p : ℕ → Bool) (low high stop : ℕ) → low ≤ stop → stop ≤ high → ((z : ℕ) → low ≤ z → z < stop → p z ≡ true) → (stop < high → p stop ≡ false)
    → low + prefix_len p (range_with_len low (high - low)) ≡ stop
front p low high stop above below pass fail =
    let n = high - low in
    let long : stop - low ≤ length (range_with_len low n) = rw length-range_with_len (omega arith) in
    let passes = λ (k : ℕ) (l : k < stop - low). ap p (get_or-range_with_len low n k 0 (omega arith)) ∙ pass (low + k) (omega arith) (omega arith) in
    let fails = λ (l : stop - low < length (range_with_len low n)).
    let within : stop - low < n = rw length-range_with_len at l in
    let at_stop : low + (stop - low) ≡ stop = omega arith in
    ap p (get_or-range_with_len low n (stop - low) 0 within ∙ at_stop) ∙ fail (omega arith) in
    let is = prefix_len_is p (range_with_len low n) (stop - low) 0 long passes fails in
    omega (arith, is)

-- they end within the range
pub front_ends : (p : ℕ → Bool) (low high : ℕ) → low ≤ high → low + prefix_len p (range_with_len low (high - low)) ≤ high
front_ends p low high up = omega (arith, prefix_len-le-length p (range_with_len low (high - low)), length-range_with_len low (high - low))

-- each of them passes
pub front_passes : (p : ℕ → Bool) (low high z : ℕ) → low ≤ high → low ≤ z → z < low + prefix_len p (range_with_len low (high - low)) → p z ≡ true
front_passes p low high z up above before =
    let n = high - low in
    let within : z - low < n = omega (arith, front_ends p low high up) in
    let at_z : low + (z - low) ≡ z = omega arith in
    ap p (sym (get_or-range_with_len low n (z - low) 0 within ∙ at_z)) ∙ prefix_len_passes p (range_with_len low n) (z - low) 0 (omega arith)

-- the number at which they end does not
pub front_stops : (p : ℕ → Bool) (low high : ℕ) → low ≤ high → low + prefix_len p (range_with_len low (high - low)) < high → p (low + prefix_len p (range_with_len low (high - low))) ≡ false
front_stops p low high up before =
    let n = high - low in
    let k = prefix_len p (range_with_len low n) in
    let within : k < n = omega arith in
    let in_range : k < length (range_with_len low n) = rw length-range_with_len within in
    ap p (sym (get_or-range_with_len low n k 0 within)) ∙ prefix_len_stops p (range_with_len low n) 0 in_range

-- there is one where the first number passes
pub front_begins : (p : ℕ → Bool) (low high : ℕ) → low < high → p low ≡ true → low < low + prefix_len p (range_with_len low (high - low))
front_begins p low high up here =
    let n = high - low in
    let some : 0 < length (range_with_len low n) = rw length-range_with_len (omega arith) in
    let at_low : low + 0 ≡ low = omega arith in
    omega (arith, prefix_len-drop_yes p (range_with_len low n) 0 0 some (ap p (get_or-range_with_len low n 0 0 (omega arith) ∙ at_low) ∙ here))

-- the leftmost square of a run starts it
pub starts_run-IsRun : (extent : Rect) (picture : Picture) (left right y kind : ℕ) → IsRun extent picture left right y kind → starts_run extent picture left y ≡ true
starts_run-IsRun extent picture left right y kind run =
    let here = run.one_kind left (le_refl left) run.wide in
    grind (arith, nat_tests, here, run.from, run.ends_left)

-- and no other square of it does
pub left-starts_run :
    (extent : Rect) (picture : Picture) (left right y kind x : ℕ) → IsRun extent picture left right y kind → left ≤ x → x < right
    → starts_run extent picture x y ≡ true → left ≡ x
left-starts_run extent picture left right y kind x run above below starts =
    let here = run.one_kind x above below in
    grind (arith, nat_tests, run.from, run.one_kind (x - 1))

-- the line at which its kind ends is its right end
pub run_end-IsRun : (extent : Rect) (picture : Picture) (left right y kind : ℕ) → IsRun extent picture left right y kind → run_end extent picture left y ≡ right
run_end-IsRun extent picture left right y kind run =
    let here = run.one_kind left (le_refl left) run.wide in
    front (λ z. picture z y == picture left y) left extent.right right (omega arith) run.to
    (λ z above below. eq-eqb (picture z y) (picture left y) (run.one_kind z above below ∙ sym here))
    (λ below. ne_eqb (picture right y) (picture left y) (λ same. run.ends_right below (same ∙ here)))

-- a square of the extent that starts a run starts this one
pub IsRun-from_tests :
    (extent : Rect) (picture : Picture) (x y : ℕ) → extent.left ≤ x → x < extent.right → starts_run extent picture x y ≡ true
    → IsRun extent picture x (run_end extent picture x y) y (picture x y)
IsRun-from_tests extent picture x y from within starts = record {
  from = from;
  wide = front_begins (λ z. picture z y == picture x y) x extent.right within (eq-eqb (picture x y) (picture x y) refl);
  to = front_ends (λ z. picture z y == picture x y) x extent.right (omega arith);
  one_kind = λ z above below. eqb-true (picture z y) (picture x y) (front_passes (λ z. picture z y == picture x y) x extent.right z (omega arith) above below);
  ends_left = λ below same. grind (arith, nat_tests);
  ends_right = λ below. eqb-false (picture (run_end extent picture x y) y) (picture x y) (front_stops (λ z. picture z y == picture x y) x extent.right (omega arith) below);
}

-- a run on a run of the same ends and kind goes on below
pub goes_on_below-IsRun :
    (extent : Rect) (picture : Picture) (left right y kind : ℕ) → extent.bottom < y → IsRun extent picture left right y kind
    → IsRun extent picture left right (y - 1) kind → goes_on_below extent picture left y ≡ true
goes_on_below-IsRun extent picture left right y kind above run below =
    let starts = starts_run-IsRun extent picture left right (y - 1) kind below in
    let ends = run_end-IsRun extent picture left right (y - 1) kind below ∙ sym (run_end-IsRun extent picture left right y kind run) in
    let kinds = below.one_kind left (le_refl left) run.wide ∙ sym (run.one_kind left (le_refl left) run.wide) in
    and_from _ _ (and_from _ _ (and_from _ _ (lt-ltb extent.bottom y above) starts) (eq-eqb (picture left (y - 1)) (picture left y) kinds))
    (eq-eqb (run_end extent picture left (y - 1)) (run_end extent picture left y) ends)

-- what goes on below stands on such a run
pub IsRun-below :
    (extent : Rect) (picture : Picture) (left right y kind : ℕ) → IsRun extent picture left right y kind → goes_on_below extent picture left y ≡ true
    → (extent.bottom < y) × IsRun extent picture left right (y - 1) kind
IsRun-below extent picture left right y kind run goes_on =
    let tests = and_parts _ _ goes_on in
    let three = and_parts _ _ tests.0 in
    let two = and_parts _ _ three.0 in
    let below = IsRun-from_tests extent picture left (y - 1) run.from (lt_of_lt_of_le run.wide run.to) two.1 in
    let ends = eqb-true (run_end extent picture left (y - 1)) (run_end extent picture left y) tests.1 ∙ run_end-IsRun extent picture left right y kind run in
    let kinds = eqb-true (picture left (y - 1)) (picture left y) three.1 ∙ run.one_kind left (le_refl left) run.wide in
    (ltb-true extent.bottom y two.0, subst₂ (λ (r k : ℕ). IsRun extent picture left r (y - 1) k) ends kinds below)
