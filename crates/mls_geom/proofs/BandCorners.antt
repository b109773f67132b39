-- The covered corners of a band of rows that are alike: they lie in its lowest row, and each begins a run that the row below doesn't have.
use Rattle.mls_geom.proofs.Common.{◌≡◌, ◌≢◌, ℕ, ◌+◌, ◌-◌, ◌<◌, ◌≤◌, ◌&&◌, Bool, true, false, not, cond, refl, sym, ◌∙◌, inl, inr, le_refl, arith, eq-eqb, or_from, ne_eqb, and_left, and_right, not_from_true, cases_Bool, cond-false}
use Rattle.mls_geom.proofs.Definitions.{Rect, Picture, AreAlike, up_to, IsRun, covered_count, uncovered, starts_run, goes_on_below, corner_at, corners_between}
use Rattle.mls_geom.proofs.CornerCounts.{sum_by-between, sum_by-first, sum_by-none, covered_count-up_to}
use Rattle.mls_geom.proofs.RowRuns.{IsRun-alike}
use Rattle.mls_geom.proofs.RunTests.{starts_run-IsRun, IsRun-from_tests, goes_on_below-IsRun}

-- above the lowest row of a band no square is a corner
corner_at-above :
    (extent : Rect) (picture : Picture) (bottom top y x : ℕ) → AreAlike extent picture bottom top → extent.bottom ≤ bottom → bottom < y → y < top
    → extent.left ≤ x → x < extent.right → corner_at extent picture y x ≡ 0
corner_at-above extent picture bottom top y x alike from above below left right = elim (cases_Bool (starts_run extent picture x y)) [
  | inl starts ↦
      let run = IsRun-from_tests extent picture x y left right starts in
      let same = λ (z : ℕ) (left : extent.left ≤ z) (right : z < extent.right). alike z (y - 1) left right (omega arith) (omega arith) ∙ sym (alike z y left right (omega arith) below) in
      cond-false _ 1 0 (and_left _ _ (and_right _ _ (not_from_true _ (goes_on_below-IsRun extent picture x _ y _ (omega arith) run (IsRun-alike (y - 1) same run)))))
  | inr runs_on ↦ cond-false _ 1 0 (and_left _ _ (and_left _ _ runs_on))
]

-- so a band has the corners of its lowest row
pub covered_count-band :
    (extent : Rect) (picture : Picture) (bottom top : ℕ) → extent.bottom ≤ bottom → bottom < top → AreAlike extent picture bottom top
    → covered_count (up_to top extent) picture ≡ covered_count (up_to bottom extent) picture + corners_between extent picture bottom extent.left extent.right
covered_count-band extent picture bottom top from tall alike =
    let row_corners = λ (y : ℕ). corners_between extent picture y extent.left extent.right in
    let below = sum_by-between row_corners extent.bottom bottom top from (omega arith) in
    let lowest = sum_by-first row_corners bottom top tall in
    let rest = sum_by-none row_corners (bottom + 1) top (λ y above within.
    sum_by-none (corner_at extent picture y) extent.left extent.right (λ x. corner_at-above extent picture bottom top y x alike from (omega arith) within)) in
    rw (covered_count-up_to extent picture top, covered_count-up_to extent picture bottom) (omega (arith, below, lowest, rest))

-- only the leftmost square of a run starts it
starts_run-inside :
    {extent : Rect} {picture : Picture} {left right y kind : ℕ} (x : ℕ) → IsRun extent picture left right y kind → left < x → x < right → starts_run extent picture x y ≡ false
starts_run-inside {extent} {picture} {y} x run above below =
    let same_kind = run.one_kind (x - 1) (omega arith) (omega arith) ∙ sym (run.one_kind x (omega arith) below) in
    or_from _ _ (ne_eqb x extent.left (λ same. omega (arith, run.from))) (not_from_true _ (eq-eqb (picture (x - 1) y) (picture x y) same_kind))

corner_first : {starts empty : Bool} → starts ≡ true → empty ≡ false → (goes_on : Bool) → cond {A = ℕ} ((starts && not goes_on) && not empty) 1 0 ≡ cond goes_on 0 1
corner_first starts some true = rw starts refl
corner_first starts some false = rw (starts, some) refl

-- so of the columns of a covered run only the first may have a corner
pub corners_between-run :
    {extent : Rect} {picture : Picture} {left right y kind : ℕ} → IsRun extent picture left right y kind → kind ≢ uncovered
    → corners_between extent picture y extent.left right ≡ corners_between extent picture y extent.left left + cond (goes_on_below extent picture left y) 0 1
corners_between-run {extent} {picture} {left} {right} {y} {kind} run covered =
    let before = sum_by-between (corner_at extent picture y) extent.left left right run.from (omega (arith, run.wide)) in
    let first = sum_by-first (corner_at extent picture y) left right run.wide in
    let rest = sum_by-none (corner_at extent picture y) (left + 1) right (λ x above below. cond-false _ 1 0 (and_left _ _ (and_left _ _ (starts_run-inside x run (omega arith) below)))) in
    let some = ne_eqb (picture left y) uncovered (λ none. covered (sym (run.one_kind left (le_refl left) run.wide) ∙ none)) in
    omega (arith, before, first, rest, corner_first (starts_run-IsRun extent picture left right y kind run) some (goes_on_below extent picture left y))

-- and columns in which no square is covered have none
pub corners_between-uncovered :
    (extent : Rect) (picture : Picture) (y left right : ℕ) → extent.left ≤ left → left ≤ right → ((x : ℕ) → left ≤ x → x < right → picture x y ≡ uncovered)
    → corners_between extent picture y extent.left right ≡ corners_between extent picture y extent.left left
corners_between-uncovered extent picture y left right from up none =
    let before = sum_by-between (corner_at extent picture y) extent.left left right from up in
    let rest = sum_by-none (corner_at extent picture y) left right (λ x above below. cond-false _ 1 0 (and_right _ _ (not_from_true _ (eq-eqb (picture x y) uncovered (none x above below))))) in
    omega (arith, before, rest)

-- the whole row has the corners of its first columns, and maybe more
pub corners_between-grows :
    (extent : Rect) (picture : Picture) (y column : ℕ) → extent.left ≤ column → column ≤ extent.right
    → corners_between extent picture y extent.left column ≤ corners_between extent picture y extent.left extent.right
corners_between-grows extent picture y column from to = omega (arith, sum_by-between (corner_at extent picture y) extent.left column extent.right from to)
