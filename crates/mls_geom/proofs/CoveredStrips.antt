-- A picture, and a window on it: the picture with some of its strips uncovered.
use Rattle.mls_geom.proofs.Common.{◌≡◌, ◌≢◌, ℕ, ◌+◌, ◌-◌, ◌<◌, ◌≤◌, true, List, All, Any, inl, inr, sym, ap, ◌∙◌, arith, cases_lt, cases_eq, and_from, and_parts, both_ways, false_from_ne_true, not-true, not_from_false}
use Rattle.mls_geom.proofs.Definitions.{uncovered, Picture, Rect, holds, IsRun, IsStrip, is_corner, Piece}
use Rattle.mls_geom.proofs.Holds.{holds_between, between_holds}
use Rattle.mls_geom.proofs.RowRuns.{one_run}
use Rattle.mls_geom.proofs.RunTests.{starts_run-IsRun, IsRun-from_tests, goes_on_below-IsRun, IsRun-below}

-- the window shows the picture, but for some strips of it that are uncovered there
pub record IsWindow (extent : Rect) (picture window : Picture) (hidden : List Piece) : Type 0 where
  pub strips : All (IsStrip extent picture) hidden
  pub under : All (λ strip. (x y : ℕ) → holds strip.rect x y ≡ true → window x y ≡ uncovered) hidden
  pub whole : (x y : ℕ) → holds extent x y ≡ true → window x y ≡ uncovered → Any (λ strip. holds strip.rect x y ≡ true) hidden
  pub shows : (x y : ℕ) → holds extent x y ≡ true → window x y ≢ uncovered → window x y ≡ picture x y

-- the strip that an uncovered square lies in
record IsHidden (extent : Rect) (picture window : Picture) (x y : ℕ) (strip : Piece) : Type 0 where
  is : IsStrip extent picture strip
  here : holds strip.rect x y ≡ true
  under : (a b : ℕ) → holds strip.rect a b ≡ true → window a b ≡ uncovered

hidden_at :
    {extent : Rect} {picture window : Picture} {hidden : List Piece} (x y : ℕ) → IsWindow extent picture window hidden → holds extent x y ≡ true
    → window x y ≡ uncovered → (strip : Piece) × IsHidden extent picture window x y strip
hidden_at {extent} {picture} {window} {hidden} x y shown inside bare =
    let (k, strip, within, is, here) = shown.whole x y inside bare in
    (strip, record { is = rw is at (shown.strips k strip within); here = here; under = rw is at (shown.under k strip within) })

-- an uncovered square has another kind than a covered one on its left
differs_right :
    {extent : Rect} {picture window : Picture} {hidden : List Piece} (x z y : ℕ) → IsWindow extent picture window hidden → z ≡ x + 1 → holds extent x y ≡ true
    → holds extent z y ≡ true → window x y ≢ uncovered → window z y ≡ uncovered → picture x y ≢ picture z y
differs_right {extent} {picture} {window} x z y shown next inside inside' covered bare same =
    let (strip, found) = hidden_at z y shown inside' bare in
    let lines = holds_between strip.rect z y found.here in
    let bounds = holds_between extent x y inside in
    let run = found.is.rows y lines.2 lines.3 in
    let left : strip.rect.left ≡ z = elim (cases_lt strip.rect.left z) [
      | inl before ↦ absurd (covered (found.under x y (between_holds strip.rect x y (omega arith) (omega (arith, lines.1)) lines.2 lines.3)))
      | inr after ↦ omega (arith, lines.0)
    ] in
    let beside : strip.rect.left - 1 ≡ x = omega (arith, left) in
    run.ends_left (omega (arith, left, bounds.0)) (ap (λ c. picture c y) beside ∙ same ∙ run.one_kind z lines.0 lines.1)

-- and than one on its right
differs_left :
    {extent : Rect} {picture window : Picture} {hidden : List Piece} (x z y : ℕ) → IsWindow extent picture window hidden → z ≡ x + 1 → holds extent x y ≡ true
    → holds extent z y ≡ true → window x y ≡ uncovered → window z y ≢ uncovered → picture x y ≢ picture z y
differs_left {extent} {picture} {window} x z y shown next inside inside' bare covered same =
    let (strip, found) = hidden_at x y shown inside bare in
    let lines = holds_between strip.rect x y found.here in
    let bounds = holds_between extent z y inside' in
    let run = found.is.rows y lines.2 lines.3 in
    let right : strip.rect.right ≡ z = elim (cases_lt z strip.rect.right) [
      | inl after ↦ absurd (covered (found.under z y (between_holds strip.rect z y (omega (arith, lines.0)) after lines.2 lines.3)))
      | inr before ↦ omega (arith, lines.1)
    ] in
    run.ends_right (omega (arith, right, bounds.1)) (ap (λ c. picture c y) right ∙ sym same ∙ run.one_kind x lines.0 lines.1)

-- a covered run of the window is one of the picture
IsRun-shown :
    {extent : Rect} {picture window : Picture} {hidden : List Piece} {left right y kind : ℕ} → IsWindow extent picture window hidden → extent.bottom ≤ y
    → y < extent.top → kind ≢ uncovered → IsRun extent window left right y kind → IsRun extent picture left right y kind
IsRun-shown {extent} {picture} {window} {left} {right} {y} {kind} shown low high known run =
    let inside = λ (x : ℕ) (from : extent.left ≤ x) (to : x < extent.right). between_holds extent x y from to low high in
    let covered = λ (x : ℕ) (above : left ≤ x) (below : x < right) (bare : window x y ≡ uncovered). known (sym (run.one_kind x above below) ∙ bare) in
    let one_kind = λ (x : ℕ) (above : left ≤ x) (below : x < right).
    sym (shown.shows x y (inside x (omega (arith, run.from)) (omega (arith, run.to))) (covered x above below)) ∙ run.one_kind x above below in
    record {
      from = run.from;
      wide = run.wide;
      to = run.to;
      one_kind = one_kind;
      ends_left = λ more same.
          let here = inside (left - 1) (omega arith) (omega (arith, run.wide, run.to)) in
          let first = inside left run.from (omega (arith, run.wide, run.to)) in
          elim (cases_eq (window (left - 1) y) uncovered) [
            | inl bare ↦
                differs_left (left - 1) left y shown (omega arith) here first bare (covered left (omega arith) run.wide)
                (same ∙ sym (one_kind left (omega arith) run.wide))
            | inr known' ↦ run.ends_left more (shown.shows (left - 1) y here known' ∙ same)
          ];
      ends_right = λ more same.
          let wide = run.wide in
          let here = inside right (omega (arith, run.from)) more in
          let last = inside (right - 1) (omega (arith, run.from)) (omega arith) in
          let above : left ≤ right - 1 = omega arith in
          let below : right - 1 < right = omega arith in
          elim (cases_eq (window right y) uncovered) [
            | inl bare ↦
                differs_right (right - 1) right y shown (omega arith) last here (covered (right - 1) above below) bare (one_kind (right - 1) above below ∙ sym same)
            | inr known' ↦ run.ends_right more (shown.shows right y here known' ∙ same)
          ];
    }

-- in a run of the picture with a covered square each square is covered
run_covered :
    {extent : Rect} {picture window : Picture} {hidden : List Piece} {left right y kind : ℕ} (x z : ℕ) → IsWindow extent picture window hidden
    → extent.bottom ≤ y → y < extent.top → IsRun extent picture left right y kind → left ≤ x → x < right → window x y ≢ uncovered → left ≤ z → z < right
    → window z y ≢ uncovered
run_covered {extent} {picture} {window} {left} {right} {y} x z shown low high run from to covered from' to' bare =
    let inside = between_holds extent z y (omega (arith, run.from)) (omega (arith, run.to)) low high in
    let (strip, found) = hidden_at z y shown inside bare in
    let lines = holds_between strip.rect z y found.here in
    let same = one_run z (found.is.rows y lines.2 lines.3) run lines.0 lines.1 from' to' in
    covered (found.under x y (between_holds strip.rect x y (omega (arith, same.left)) (omega (arith, same.right)) lines.2 lines.3))

-- and such a run is one of the window
IsRun-window :
    {extent : Rect} {picture window : Picture} {hidden : List Piece} {left right y kind : ℕ} (x : ℕ) → IsWindow extent picture window hidden
    → extent.bottom ≤ y → y < extent.top → IsRun extent picture left right y kind → left ≤ x → x < right → window x y ≢ uncovered
    → IsRun extent window left right y kind
IsRun-window {extent} {picture} {window} {left} {right} {y} {kind} x shown low high run from to covered =
    let inside = λ (z : ℕ) (above : extent.left ≤ z) (below : z < extent.right). between_holds extent z y above below low high in
    let each = λ (z : ℕ) (above : left ≤ z) (below : z < right). run_covered x z shown low high run from to covered above below in
    let one_kind = λ (z : ℕ) (above : left ≤ z) (below : z < right).
    shown.shows z y (inside z (omega (arith, run.from)) (omega (arith, run.to))) (each z above below) ∙ run.one_kind z above below in
    let known : kind ≢ uncovered = λ bare. covered (one_kind x from to ∙ bare) in
    record {
      from = run.from;
      wide = run.wide;
      to = run.to;
      one_kind = one_kind;
      ends_left = λ more same.
          let here = inside (left - 1) (omega arith) (omega (arith, run.wide, run.to)) in
          run.ends_left more (sym (shown.shows (left - 1) y here (λ bare. known (sym same ∙ bare))) ∙ same);
      ends_right = λ more same.
          let here = inside right (omega (arith, run.from, run.wide)) more in
          run.ends_right more (sym (shown.shows right y here (λ bare. known (sym same ∙ bare))) ∙ same);
    }

-- where two rows of the picture have one run, and it is covered in the upper row, it is covered in the lower
below_covered :
    {extent : Rect} {picture window : Picture} {hidden : List Piece} {left right kind : ℕ} (y z : ℕ) → IsWindow extent picture window hidden → z ≡ y + 1
    → extent.bottom ≤ y → z < extent.top → IsRun extent picture left right y kind → IsRun extent picture left right z kind → window left z ≢ uncovered
    → window left y ≢ uncovered
below_covered {extent} {picture} {window} {left} {right} {kind} y z shown next low high run above covered bare =
    let wide = run.wide in
    let inside = between_holds extent left y run.from (omega (arith, run.to)) low (omega arith) in
    let (strip, found) = hidden_at left y shown inside bare in
    let lines = holds_between strip.rect left y found.here in
    let same = one_run left (found.is.rows y lines.2 lines.3) run lines.0 lines.1 (omega arith) wide in
    let top : strip.rect.top ≡ z = elim (cases_lt z strip.rect.top) [
      | inl higher ↦ absurd (covered (found.under left z (between_holds strip.rect left z lines.0 lines.1 (omega (arith, lines.2)) higher)))
      | inr ends ↦ omega (arith, lines.3)
    ] in
    found.is.ends_above (omega (arith, top)) (rw (same.left, same.right, same.kind, top) above)

-- and the other way round
above_covered :
    {extent : Rect} {picture window : Picture} {hidden : List Piece} {left right kind : ℕ} (y z : ℕ) → IsWindow extent picture window hidden → z ≡ y + 1
    → extent.bottom ≤ y → z < extent.top → IsRun extent picture left right y kind → IsRun extent picture left right z kind → window left y ≢ uncovered
    → window left z ≢ uncovered
above_covered {extent} {picture} {window} {left} {right} {kind} y z shown next low high run above covered bare =
    let wide = run.wide in
    let inside = between_holds extent left z run.from (omega (arith, run.to)) (omega arith) high in
    let (strip, found) = hidden_at left z shown inside bare in
    let lines = holds_between strip.rect left z found.here in
    let same = one_run left (found.is.rows z lines.2 lines.3) above lines.0 lines.1 (omega arith) wide in
    let bottom : strip.rect.bottom ≡ z = elim (cases_lt strip.rect.bottom z) [
      | inl lower ↦ absurd (covered (found.under left y (between_holds strip.rect left y lines.0 lines.1 (omega arith) (omega (arith, lines.3)))))
      | inr begins ↦ omega (arith, lines.2)
    ] in
    let under : strip.rect.bottom - 1 ≡ y = omega (arith, bottom) in
    found.is.ends_below (omega (arith, bottom)) (rw (same.left, same.right, same.kind, under) run)

-- a covered strip of the window is a strip of the picture
pub IsStrip-shown :
    {extent : Rect} {picture window : Picture} {hidden : List Piece} {piece : Piece} → IsWindow extent picture window hidden → piece.kind ≢ uncovered
    → IsStrip extent window piece → IsStrip extent picture piece
IsStrip-shown {extent} {picture} {window} {piece} shown known strip =
    let e = piece.rect in
    let from = strip.from in
    let tall = strip.tall in
    let to = strip.to in
    let wide = (strip.rows e.bottom (omega arith) tall).wide in
    let row = λ (y : ℕ) (above : e.bottom ≤ y) (below : y < e.top). IsRun-shown shown (omega arith) (omega arith) known (strip.rows y above below) in
    let covered = λ (y : ℕ) (above : e.bottom ≤ y) (below : y < e.top) (bare : window e.left y ≡ uncovered).
    known (sym ((strip.rows y above below).one_kind e.left (omega arith) wide) ∙ bare) in
    record {
      from = from;
      tall = tall;
      to = to;
      rows = row;
      ends_below = λ more run.
          let lowest = row e.bottom (omega arith) tall in
          let there = below_covered (e.bottom - 1) e.bottom shown (omega arith) (omega arith) (omega arith) run lowest (covered e.bottom (omega arith) tall) in
          strip.ends_below more (IsRun-window e.left shown (omega arith) (omega arith) run (omega arith) wide there);
      ends_above = λ more run.
          let highest = row (e.top - 1) (omega arith) (omega arith) in
          let there = above_covered (e.top - 1) e.top shown (omega arith) (omega arith) more highest run (covered (e.top - 1) (omega arith) (omega arith)) in
          strip.ends_above more (IsRun-window e.left shown (omega arith) more run (omega arith) wide there);
    }

-- a covered corner of the window is a corner of the picture
pub is_corner-shown :
    {extent : Rect} {picture window : Picture} {hidden : List Piece} (x y : ℕ) → IsWindow extent picture window hidden → holds extent x y ≡ true
    → window x y ≢ uncovered → is_corner extent window x y ≡ true → is_corner extent picture x y ≡ true
is_corner-shown {extent} {picture} {window} x y shown inside covered corner =
    let lines = holds_between extent x y inside in
    let tests = and_parts _ _ corner in
    let run = IsRun-from_tests extent window x y lines.0 lines.1 tests.0 in
    let run' = IsRun-shown shown lines.2 lines.3 covered run in
    let starts = starts_run-IsRun extent picture _ _ _ _ run' in
    and_from _ _ starts (not_from_false _ (false_from_ne_true _ (λ on.
    let below = IsRun-below extent picture _ _ _ _ run' on in
    let above = below.0 in
    let low : extent.bottom ≤ y - 1 = omega arith in
    let there = below_covered (y - 1) y shown (omega arith) low lines.3 below.1 run' covered in
    let under = IsRun-window x shown low (omega (arith, lines.3)) below.1 (omega arith) run.wide there in
    both_ways _ (not-true _ tests.1) (goes_on_below-IsRun extent window _ _ _ _ above run under))))

-- and a corner of the picture that is covered is one of the window
pub is_corner-window :
    {extent : Rect} {picture window : Picture} {hidden : List Piece} (x y : ℕ) → IsWindow extent picture window hidden → holds extent x y ≡ true
    → window x y ≢ uncovered → is_corner extent picture x y ≡ true → is_corner extent window x y ≡ true
is_corner-window {extent} {picture} {window} x y shown inside covered corner =
    let lines = holds_between extent x y inside in
    let tests = and_parts _ _ corner in
    let run = IsRun-from_tests extent picture x y lines.0 lines.1 tests.0 in
    let known : picture x y ≢ uncovered = λ bare. covered (shown.shows x y inside covered ∙ bare) in
    let run' = IsRun-window x shown lines.2 lines.3 run (omega arith) run.wide covered in
    let starts = starts_run-IsRun extent window _ _ _ _ run' in
    and_from _ _ starts (not_from_false _ (false_from_ne_true _ (λ on.
    let below = IsRun-below extent window _ _ _ _ run' on in
    let above = below.0 in
    let under = IsRun-shown shown (omega arith) (omega (arith, lines.3)) known below.1 in
    both_ways _ (not-true _ tests.1) (goes_on_below-IsRun extent picture _ _ _ _ above run under))))
