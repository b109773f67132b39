-- The strips of covered squares while a band is stacked on them from left to right: in the columns left of a line up to the band's top, in the others up to its bottom.
use Rattle.mls_geom.proofs.Common.{◌≡◌, ◌≢◌, ℕ, ◌+◌, ◌-◌, ◌<◌, ◌≤◌, List, [], ◌∷◌, ◌++◌, length, get_or, set, IsTrue, true, inl, inr, le_refl, sym, ◌∙◌, arith, length-set, AllPairs, cases_lt, cases_order, false_from_ne_true, nat_tests, length_push, All-push, All-set, any-set, Any-push, all_pairs_push}
use Rattle.mls_geom.proofs.Definitions.{Rect, Picture, up_to, extended, new_strip, AreCoveredStrips, covered_count, uncovered, IsRun, IsStrip, comes_before, goes_on_below, Piece, Run, HasSquare, IsBand, IsPartlyStacked, corners_between}
use Rattle.mls_geom.proofs.BandCorners.{corners_between-grows, corners_between-run, corners_between-uncovered, covered_count-band}
use Rattle.mls_geom.proofs.Holds.{holds_between, between_holds}
use Rattle.mls_geom.proofs.JoinedLists.{Any-append_left}
use Rattle.mls_geom.proofs.ListChanges.{All-set_others, AllPairs-set, Any-set_kept}
use Rattle.mls_geom.proofs.RowRuns.{AreOneRun, IsRun-alike, both_one_run, IsRun-extent, one_run}
use Rattle.mls_geom.proofs.RunTests.{IsRun-below, goes_on_below-IsRun}
use Rattle.mls_geom.proofs.StripEnds.{IsStrip-new_strip, IsStrip-higher, IsStrip-extended, one_bottom}

-- the row below the line doesn't have the run
abbrev pub BeginsAt : Rect → Picture → ℕ → Run → Type 0
BeginsAt extent picture bottom run = extent.bottom < bottom → ¬ (IsRun extent picture run.left run.right (bottom - 1) run.kind)

-- strips of the list with the same ends, kind and top line are one
one_strip :
    {extent : Rect} {picture : Picture} (strips : List Piece) (m n : ℕ) (d : Piece) → AllPairs (λ p q. IsTrue (comes_before p q)) strips → m < length strips → n < length strips
    → IsStrip extent picture (get_or strips m d) → IsStrip extent picture (get_or strips n d) → (get_or strips m d).rect.top ≡ (get_or strips n d).rect.top
    → AreOneRun (get_or strips m d).rect.left (get_or strips m d).rect.right (get_or strips m d).kind (get_or strips n d).rect.left (get_or strips n d).rect.right (get_or strips n d).kind
    → m ≡ n
one_strip strips m n d ordered m_within n_within p q top same =
    let left = same.left in
    let bottom = one_bottom p q same top in
    elim (cases_order m n) [
      | inl equal ↦ equal
      | inr (inl before) ↦
          let up = ordered m n d before n_within in
          absurd (grind (arith, nat_tests))
      | inr (inr after) ↦
          let up = ordered n m d after m_within in
          absurd (grind (arith, nat_tests))
    ]

-- a run of the band's lowest row is one of each of its rows
rows_of_run :
    {extent : Rect} {picture : Picture} {bottom top l r k : ℕ} → IsBand extent picture bottom top → IsRun extent picture l r bottom k
    → (row : ℕ) → bottom ≤ row → row < top → IsRun extent picture l r row k
rows_of_run band run row above below = IsRun-alike row (λ x left right. band.alike x row left right above below) run

-- a strip that begins left of the run's end, and that the run doesn't go on with, ends where it does
ends_here :
    {extent : Rect} {picture : Picture} {bottom top : ℕ} (run : Run) (piece : Piece) → IsBand extent picture bottom top → IsRun extent picture run.left run.right bottom run.kind
    → (piece.rect.left < run.left → IsStrip (up_to top extent) picture piece) → (run.left ≤ piece.rect.left → IsStrip (up_to bottom extent) picture piece)
    → piece.rect.left < run.right
    → (IsStrip (up_to bottom extent) picture piece → piece.rect.top ≡ bottom → ¬ (AreOneRun piece.rect.left piece.rect.right piece.kind run.left run.right run.kind))
    → IsStrip (up_to top extent) picture piece
ends_here {extent} {bottom} {top} run piece band here done to_do before other = elim (cases_lt piece.rect.left run.left) [
  | inl left ↦ done left
  | inr from ↦
      let strip = to_do from in
      let up : bottom ≤ top = omega (arith, band.tall) in
      IsStrip-higher extent bottom top up strip (λ reaches over. other strip reaches (one_run piece.rect.left over here (le_refl piece.rect.left) over.wide from before))
]

-- where a strip of the run's ends and kind reaches up to the band, the row below has the run
row_below :
    {extent : Rect} {picture : Picture} {bottom : ℕ} {piece : Piece} (run : Run) → IsStrip (up_to bottom extent) picture piece → piece.rect.top ≡ bottom
    → AreOneRun piece.rect.left piece.rect.right piece.kind run.left run.right run.kind → (extent.bottom < bottom) × IsRun extent picture run.left run.right (bottom - 1) run.kind
row_below {extent} {bottom} run strip reaches same =
    let under = IsRun-extent extent bottom (strip.rows (bottom - 1) (omega (arith, strip.tall)) (omega (arith, strip.tall))) in
    (omega (arith, strip.from, strip.tall), rw (same.left, same.right, same.kind) at under)

-- a strip has its squares when it is extended, and those up to the new line
holds_extended : (piece : Piece) (top x y : ℕ) → piece.rect.top ≤ top → HasSquare x y piece → HasSquare x y (extended top piece)
holds_extended piece top x y up held =
    let (left, right, bottom, below) = holds_between piece.rect x y held in
    between_holds (extended top piece).rect x y left right bottom (omega arith)

-- the run goes on with a strip
pub IsPartlyStacked-extended :
    {extent : Rect} {picture : Picture} {bottom top : ℕ} {strips : List Piece} (run : Run) (n : ℕ) (d : Piece)
    → IsBand extent picture bottom top → IsRun extent picture run.left run.right bottom run.kind → run.kind ≢ uncovered → IsPartlyStacked extent picture bottom top run.left strips
    → n < length strips → (get_or strips n d).rect.top ≡ bottom
    → AreOneRun (get_or strips n d).rect.left (get_or strips n d).rect.right (get_or strips n d).kind run.left run.right run.kind
    → IsPartlyStacked extent picture bottom top run.right (set strips n (extended top (get_or strips n d)))
IsPartlyStacked-extended {extent} {picture} {bottom} {top} {strips} run n d band here some part within reaches same =
    let strip = get_or strips n d in
    let stood = part.to_do n d within (omega (arith, same.left)) in
    let (above, under) = row_below run stood reaches same in
    let goes_on = goes_on_below-IsRun extent picture _ _ _ _ above here under in
    let held_more = λ (x y : ℕ). holds_extended strip top x y (omega (arith, band.tall)) in
    record {
      done = All-set_others (λ strip. strip.rect.left < run.right → IsStrip (up_to top extent) picture strip) strips n (extended top strip) d
          (λ _. IsStrip-extended extent bottom top band.tall stood reaches (rw (← same.left, ← same.right, ← same.kind) at (rows_of_run band here)))
          (λ k inside other before. ends_here run (get_or strips k d) band here (part.done k d inside) (part.to_do k d inside) before
          (λ stands up shared. other (one_strip strips k n d part.ordered inside within stands stood (up ∙ sym reaches) (both_one_run shared same))));
      to_do = All-set_others (λ strip. run.right ≤ strip.rect.left → IsStrip (up_to bottom extent) picture strip) strips n (extended top strip) d
          (λ right. absurd (omega (arith, here.wide, same.left)))
          (λ k inside _ right. part.to_do k d inside (omega (arith, here.wide)));
      low = All-set (λ strip. strip.rect.bottom ≤ bottom) strips n (extended top strip) (part.low n d within) part.low;
      covered = All-set (λ strip. strip.kind ≢ uncovered) strips n (extended top strip) (part.covered n d within) part.covered;
      below = λ x y inside shown. Any-set_kept (HasSquare x y) strips n (extended top strip) d (held_more x y) (part.below x y inside shown);
      beside = λ x y left right above under shown. elim (cases_lt x run.left) [
        | inl before ↦ Any-set_kept (HasSquare x y) strips n (extended top strip) d (held_more x y) (part.beside x y left before above under shown)
        | inr from ↦ any-set (HasSquare x y) strips n (extended top strip) within
            (between_holds (extended top strip).rect x y (omega (arith, same.left)) (omega (arith, same.right)) (omega (arith, part.low n d within)) under)
      ];
      ordered = AllPairs-set (λ p q. IsTrue (comes_before p q)) strips n (extended top strip) d (λ _ before. before) (λ _ before. before) part.ordered;
      count = rw length-set (omega (arith, part.count, rw goes_on at (corners_between-run here some)));
    }

-- a run that begins a strip is one corner more
corner_begins :
    {extent : Rect} {picture : Picture} {bottom : ℕ} (run : Run) → IsRun extent picture run.left run.right bottom run.kind → run.kind ≢ uncovered → BeginsAt extent picture bottom run
    → corners_between extent picture bottom extent.left run.right ≡ corners_between extent picture bottom extent.left run.left + 1
corner_begins {extent} {picture} {bottom} run here some begins =
    let under = λ (goes_on : goes_on_below extent picture run.left bottom ≡ true). IsRun-below extent picture _ _ _ _ here goes_on in
    let ends_below = false_from_ne_true _ (λ goes_on. begins (under goes_on).0 (under goes_on).1) in
    rw ends_below at (corners_between-run here some)

-- a strip that begins with a run of the band comes after those before it
new_strip_last :
    (bottom top : ℕ) (run : Run) (piece : Piece) → piece.rect.bottom ≤ bottom → (run.left ≤ piece.rect.left → piece.rect.bottom < bottom)
    → IsTrue (comes_before piece (new_strip bottom top run))
new_strip_last bottom top run piece low lower = elim (cases_lt piece.rect.left run.left) [
  | inl left ↦ grind (arith, nat_tests)
  | inr from ↦
      let under = lower from in
      grind (arith, nat_tests)
]

-- the run begins a strip
pub IsPartlyStacked-new_strip :
    {extent : Rect} {picture : Picture} {bottom top : ℕ} {strips : List Piece} (run : Run)
    → IsBand extent picture bottom top → IsRun extent picture run.left run.right bottom run.kind → run.kind ≢ uncovered → IsPartlyStacked extent picture bottom top run.left strips
    → BeginsAt extent picture bottom run → IsPartlyStacked extent picture bottom top run.right (strips ++ new_strip bottom top run ∷ [])
IsPartlyStacked-new_strip {extent} {picture} {bottom} {top} {strips} run band here some part begins =
    let strip = new_strip bottom top run in
    record {
      done = All-push (λ strip. strip.rect.left < run.right → IsStrip (up_to top extent) picture strip) strips strip
          (λ k d inside before. ends_here run (get_or strips k d) band here (part.done k d inside) (part.to_do k d inside) before
          (λ stands reaches same. (let (above, under) = row_below run stands reaches same in begins above under)))
          (λ _. IsStrip-new_strip extent run bottom top band.from band.tall (rows_of_run band here) begins);
      to_do = All-push (λ strip. run.right ≤ strip.rect.left → IsStrip (up_to bottom extent) picture strip) strips strip
          (λ k d inside right. part.to_do k d inside (omega (arith, here.wide)))
          (λ right. absurd (omega (arith, here.wide)));
      low = All-push (λ strip. strip.rect.bottom ≤ bottom) strips strip part.low (le_refl bottom);
      covered = All-push (λ strip. strip.kind ≢ uncovered) strips strip part.covered some;
      below = λ x y inside shown. Any-append_left (HasSquare x y) strips (strip ∷ []) (part.below x y inside shown);
      beside = λ x y left right above under shown. elim (cases_lt x run.left) [
        | inl before ↦ Any-append_left (HasSquare x y) strips (strip ∷ []) (part.beside x y left before above under shown)
        | inr from ↦ Any-push (HasSquare x y) strips strip (between_holds strip.rect x y from right above under)
      ];
      ordered = all_pairs_push (λ p q. IsTrue (comes_before p q)) strips strip part.ordered (λ k d inside. new_strip_last bottom top run (get_or strips k d) (part.low k d inside) (λ from. omega (arith, (part.to_do k d inside from).tall, (part.to_do k d inside from).to)));
      count = rw length_push (omega (arith, part.count, corner_begins run here some begins));
    }

-- a strip lies between the extent's left line and its right one
pub sides :
    {extent : Rect} {picture : Picture} {piece : Piece} → IsStrip extent picture piece → (extent.left ≤ piece.rect.left) × (piece.rect.left < extent.right)
sides {piece} strip =
    let run = strip.rows piece.rect.bottom (le_refl piece.rect.bottom) strip.tall in
    (run.from, omega (arith, run.wide, run.to))

-- before the first run
pub IsPartlyStacked-start :
    {extent : Rect} {picture : Picture} (bottom top : ℕ) {strips : List Piece}
    → AreCoveredStrips (up_to bottom extent) picture strips → length strips ≡ covered_count (up_to bottom extent) picture → IsPartlyStacked extent picture bottom top extent.left strips
IsPartlyStacked-start {extent} {picture} bottom top laid count =
    let none : extent.left - extent.left ≡ 0 = omega arith in
    record {
      done = λ k d inside left. absurd (omega (arith, sides (laid.each k d inside).0));
      to_do = λ k d inside _. (laid.each k d inside).0;
      low = λ k d inside. omega (arith, (laid.each k d inside).0.tall, (laid.each k d inside).0.to);
      covered = λ k d inside. (laid.each k d inside).1;
      below = laid.whole;
      beside = λ x y left right above under shown. absurd (omega arith);
      ordered = laid.ordered;
      count = rw none (omega arith);
    }

-- past columns in which no square is covered
pub IsPartlyStacked-uncovered :
    {extent : Rect} {picture : Picture} {bottom top column : ℕ} {strips : List Piece} (next : ℕ) → bottom ≤ top → extent.left ≤ column → column ≤ next
    → ((x : ℕ) → column ≤ x → x < next → picture x bottom ≡ uncovered) → IsPartlyStacked extent picture bottom top column strips
    → IsPartlyStacked extent picture bottom top next strips
IsPartlyStacked-uncovered {extent} {picture} {bottom} {top} {column} {strips} next up from on none part = record {
  done = λ k d inside before. elim (cases_lt (get_or strips k d).rect.left column) [
    | inl left ↦ part.done k d inside left
    | inr past ↦
        let strip = part.to_do k d inside past in
        IsStrip-higher extent bottom top up strip
        (λ reaches run. part.covered k d inside (sym (run.one_kind (get_or strips k d).rect.left (le_refl (get_or strips k d).rect.left) run.wide) ∙ none (get_or strips k d).rect.left past before))
  ];
  to_do = λ k d inside right. part.to_do k d inside (omega arith);
  low = part.low;
  covered = part.covered;
  below = part.below;
  beside = λ x y left right above under shown. elim (cases_lt x column) [
    | inl before ↦ part.beside x y left before above under shown
    | inr past ↦ absurd (shown (none x past right))
  ];
  ordered = part.ordered;
  count = omega (arith, part.count, corners_between-uncovered extent picture bottom column next from on none);
}

-- after the last run
pub IsPartlyStacked-end :
    {extent : Rect} {picture : Picture} {bottom top : ℕ} {strips : List Piece} → IsBand extent picture bottom top
    → IsPartlyStacked extent picture bottom top extent.right strips → AreCoveredStrips (up_to top extent) picture strips × (length strips ≡ covered_count (up_to top extent) picture)
IsPartlyStacked-end {extent} {picture} {bottom} {top} {strips} band part = (
  record {
    each = λ k d inside. (
      elim (cases_lt (get_or strips k d).rect.left extent.right) as (λ _. IsStrip (up_to top extent) picture (get_or strips k d)) [
        | inl before ↦ part.done k d inside before
        | inr past ↦ absurd (omega (arith, sides (part.to_do k d inside past)))
      ],
      part.covered k d inside,
    );
    whole = λ x y inside shown.
        (let (left, right, from, below) = holds_between (up_to top extent) x y inside in
        elim (cases_lt y bottom) [
          | inl under ↦ part.below x y (between_holds (up_to bottom extent) x y left right from under) shown
          | inr over ↦ part.beside x y left right over below (λ none. shown (band.alike x y left right over below ∙ none))
        ]);
    ordered = part.ordered;
  },
  part.count ∙ sym (covered_count-band extent picture bottom top band.from band.tall band.alike),
)

-- one more strip than there may be
pub length-lt-covered_count :
    {extent : Rect} {picture : Picture} {bottom top : ℕ} {strips : List Piece} (run : Run)
    → IsBand extent picture bottom top → IsRun extent picture run.left run.right bottom run.kind → run.kind ≢ uncovered → IsPartlyStacked extent picture bottom top run.left strips
    → BeginsAt extent picture bottom run → length strips < covered_count (up_to top extent) picture
length-lt-covered_count {extent} {picture} {bottom} {top} run band here some part begins =
    let whole = covered_count-band extent picture bottom top band.from band.tall band.alike in
    omega (arith, part.count, whole, corner_begins run here some begins, corners_between-grows extent picture bottom run.right (omega (arith, here.from, here.wide)) here.to)
