-- The runs of a band's row, as many as are stacked from left to right, with the strips that they and the runs below name.
use Rattle.mls_geom.proofs.Common.{◌≡◌, ℕ, ◌+◌, ◌-◌, ◌<◌, ◌≤◌, List, [], ◌∷◌, ◌++◌, length, get_or, set, take, All, IsSomeAnd, IfSome, slice_get, inl, inr, refl, ◌∙◌, arith, AllWithin, HoldsAt, cases_lt, cases_order, slice_get-get_or, get_or_default, take_all, take_more_set, All-push, All-weaker}
use Rattle.mls_geom.proofs.Definitions.{Rect, Picture, AreRuns, AreStacked, AreAlike, NameStrips, ReachesUp, StandsOn, new_strip, extended, up_to, covered_count, Piece, Run, IsBand, IsPartlyStacked}
use Rattle.mls_geom.proofs.ListChanges.{IsSomeAnd-append, IsSomeAnd-push, IsSomeAnd-set, IsSomeAnd-set_same, at_IsSomeAnd}
use Rattle.mls_geom.proofs.RowRuns.{AreInOrder-runs, AreOneRun, AreRuns-alike, AreRuns-set, left_line, left_line-from, left_line-next, left_line-past, left_line-set, left_line-within, named, run_listed, runs_ascend, uncovered-between}
use Rattle.mls_geom.proofs.Stacking.{BeginsAt, IsPartlyStacked-new_strip, IsPartlyStacked-end, IsPartlyStacked-extended, IsPartlyStacked-start, IsPartlyStacked-uncovered, length-lt-covered_count}

-- of the band's row the first n runs are stacked, and of the runs below it those before the index are passed
pub record IsRowStacked (extent : Rect) (picture : Picture) (bottom top : ℕ) (below row : List Run) (index n : ℕ) (strips : List Piece) : Type 0 where
  pub wide : extent.left < extent.right
  pub band : IsBand extent picture bottom top
  pub runs : AreRuns extent picture bottom row
  pub runs_below : extent.bottom < bottom → AreRuns extent picture (bottom - 1) below
  pub partly : IsPartlyStacked extent picture bottom top (left_line row n extent.right) strips
  pub passed : AllWithin (λ under. under.left < left_line row n extent.right) below 0 index
  pub named : NameStrips top strips (take n row)
  pub named_below : All (λ under. left_line row n extent.right ≤ under.left → IsSomeAnd (slice_get strips under.strip) (ReachesUp bottom under)) below

-- before the first run
pub IsRowStacked-start :
    {extent : Rect} {picture : Picture} {bottom top : ℕ} {below row : List Run} {strips : List Piece} → extent.left < extent.right → extent.bottom ≤ bottom → bottom < top
    → AreStacked extent picture bottom strips below → AreRuns extent picture bottom row → AreAlike extent picture bottom top
    → IsRowStacked extent picture bottom top below row 0 0 strips
IsRowStacked-start {extent} {bottom} {top} {row} wide from tall stacked runs alike = record {
  wide = wide;
  band = record { from = from; tall = tall; alike = alike };
  runs = runs;
  runs_below = stacked.runs;
  partly = IsPartlyStacked-uncovered (left_line row 0 extent.right) (omega arith) (omega arith) (left_line-from row 0 runs (omega arith))
      (λ x left before. uncovered-between row 0 x runs (omega arith) left before (λ m d sooner within. absurd (omega arith)))
      (IsPartlyStacked-start bottom top stacked.laid stacked.count);
  passed = λ k d above within. absurd (omega arith);
  named = λ k d within. absurd (omega arith);
  named_below = λ k d within _. stacked.named k d within;
}

-- after the last run
pub IsRowStacked-end :
    {extent : Rect} {picture : Picture} {bottom top index n : ℕ} {below row : List Run} {strips : List Piece}
    → IsRowStacked extent picture bottom top below row index n strips → length row ≤ n → AreStacked extent picture top strips row
IsRowStacked-end {extent} {top} {n} {row} state all =
    let band = state.band in
    let (laid, count) = IsPartlyStacked-end band (rw (left_line-past row n extent.right all) at state.partly) in
    record {
      laid = laid;
      count = count;
      first = λ low. absurd (omega (arith, band.from, band.tall));
      runs = λ _. AreRuns-alike (top - 1) (λ x left right. band.alike x (top - 1) left right (omega (arith, band.tall)) (omega (arith, band.tall))) state.runs;
      named = rw (take_all n row all) at state.named;
    }

-- the strip, below the band, that a run stands on
pub record IsStripUnder (bottom : ℕ) (run : Run) (strip : Piece) : Type 0 where
  pub low : strip.rect.bottom ≤ bottom
  pub reaches : strip.rect.top ≡ bottom
  pub same : AreOneRun strip.rect.left strip.rect.right strip.kind run.left run.right run.kind

pub IsStripUnder-named :
    {extent : Rect} {picture : Picture} {bottom top index n : ℕ} {below row : List Run} {strips : List Piece} (d : Run) (at strip : ℕ)
    → IsRowStacked extent picture bottom top below row index n strips → n < length row
    → IsSomeAnd (slice_get below at) (StandsOn (get_or row n d)) → IsSomeAnd (slice_get below at) (λ under. under.strip ≡ strip)
    → (strip < length strips) × HoldsAt (IsStripUnder bottom (get_or row n d)) strips strip
IsStripUnder-named {extent} {bottom} {n} {below} {row} {strips} d at strip state within stands is =
    let (below_within, all_stood) = at_IsSomeAnd (StandsOn (get_or row n d)) below at stands in
    let (_, names) = at_IsSomeAnd (λ under. under.strip ≡ strip) below at is in
    let stood = all_stood d in
    let reaching = state.named_below at d below_within (omega (arith, left_line-within row n extent.right d within, stood.left)) in
    let (strip_within, reaches) = at_IsSomeAnd (ReachesUp bottom (get_or below at d)) strips strip (rw (names d) at reaching) in (
      strip_within,
      λ e. record {
        low = state.partly.low strip e strip_within;
        reaches = (reaches e).top;
        same = record { left = (reaches e).left ∙ stood.left; right = (reaches e).right ∙ stood.right; kind = (reaches e).kind ∙ stood.kind };
      },
    )

-- the runs passed on the way to a run of the row
passed_here :
    {extent : Rect} {picture : Picture} {bottom top index n : ℕ} {below row : List Run} {strips : List Piece} (d : Run) (at : ℕ)
    → IsRowStacked extent picture bottom top below row index n strips → n < length row
    → AllWithin (λ under. under.left < (get_or row n d).left) below index at → AllWithin (λ under. under.left < (get_or row n d).left) below 0 at
passed_here {extent} {index} {n} {row} d at state within passed k e above before = elim (cases_lt k index) [
  | inl sooner ↦ rw (left_line-within row n extent.right d within) at (state.passed k e above sooner)
  | inr later ↦ passed k e later before
]

-- a run that stands on none of those below begins a strip
pub BeginsAt-found :
    {extent : Rect} {picture : Picture} {bottom top index n : ℕ} {below row : List Run} {strips : List Piece} (d : Run) (at : ℕ)
    → IsRowStacked extent picture bottom top below row index n strips → n < length row
    → AllWithin (λ under. under.left < (get_or row n d).left) below index at → IfSome (slice_get below at) (λ under. (get_or row n d).left ≤ under.left)
    → ¬ (IsSomeAnd (slice_get below at) (StandsOn (get_or row n d))) → BeginsAt extent picture bottom (get_or row n d)
BeginsAt-found {below} d at state within passed stopped stands_on_none above run_below =
    let list = state.runs_below above in
    let (m, under, below_within, is, same) = run_listed below list run_below (state.runs.covered _ d within) in
    elim (cases_order m at) [
      | inl here ↦ stands_on_none (rw (← here, slice_get-get_or below m under below_within, is) (record { left = same.left; right = same.right; kind = same.kind }))
      | inr (inl before) ↦ omega (arith, rw is at (passed_here d at state within passed m under (omega arith) before), same.left)
      | inr (inr after) ↦
          let ahead = rw (slice_get-get_or below at under (omega arith)) at stopped in
          omega (arith, ahead, (list.each at under (omega arith)).wide, rw is at (list.ordered at m under after below_within), same.left)
    ]

-- the line at which the next run begins
next_line :
    {extent : Rect} {picture : Picture} {bottom : ℕ} (row : List Run) (n strip : ℕ) (d : Run) → AreRuns extent picture bottom row → n < length row
    → (get_or row n d).right ≤ left_line (set row n (named strip (get_or row n d))) (n + 1) extent.right
next_line {extent} row n strip d runs within = rw (left_line-set row n strip (n + 1) extent.right d within) (left_line-next row n d runs within)

-- up to it no square is covered
up_to_next :
    {extent : Rect} {picture : Picture} {bottom top : ℕ} {strips : List Piece} (row : List Run) (n strip : ℕ) (d : Run) → extent.left < extent.right → bottom < top
    → AreRuns extent picture bottom row → n < length row → IsPartlyStacked extent picture bottom top (get_or row n d).right strips
    → IsPartlyStacked extent picture bottom top (left_line (set row n (named strip (get_or row n d))) (n + 1) extent.right) strips
up_to_next {extent} {bottom} {top} row n strip d wide tall runs within part =
    let here = runs.each n d within in
    rw (left_line-set row n strip (n + 1) extent.right d within)
    (IsPartlyStacked-uncovered (left_line row (n + 1) extent.right) (omega arith) (omega (arith, here.from, here.wide)) (left_line-next row n d runs within)
    (λ x after before. uncovered-between row (n + 1) x runs (omega arith) (omega (arith, here.from, here.wide)) before
    (λ m e sooner m_within. omega (arith, rw (get_or_default row n e d within) at (runs_ascend row m n e (AreInOrder-runs row runs) (omega arith) within).1)))
    part)

-- the runs stacked name their strips, one run of the row later
named_more :
    (top : ℕ) (row : List Run) (n : ℕ) (run : Run) (old new : List Piece) → n < length row → NameStrips top old (take n row)
    → ((p : Run) → IsSomeAnd (slice_get old p.strip) (ReachesUp top p) → IsSomeAnd (slice_get new p.strip) (ReachesUp top p)) → IsSomeAnd (slice_get new run.strip) (ReachesUp top run)
    → NameStrips top new (take (n + 1) (set row n run))
named_more top row n run old new within names kept names_own =
    let names_kept = All-weaker (λ p. IsSomeAnd (slice_get old p.strip) (ReachesUp top p)) (λ p. IsSomeAnd (slice_get new p.strip) (ReachesUp top p)) kept (take n row) names in
    rw (take_more_set row n run within) (All-push (λ p. IsSomeAnd (slice_get new p.strip) (ReachesUp top p)) (take n row) run names_kept names_own)

-- one run more, which goes on with a strip
pub IsRowStacked-extended :
    {extent : Rect} {picture : Picture} {bottom top index n : ℕ} {below row : List Run} {strips : List Piece} (d : Run) (e : Piece) (at strip : ℕ)
    → IsRowStacked extent picture bottom top below row index n strips → n < length row → AllWithin (λ under. under.left < (get_or row n d).left) below index at
    → strip < length strips → IsStripUnder bottom (get_or row n d) (get_or strips strip e)
    → IsRowStacked extent picture bottom top below (set row n (named strip (get_or row n d))) at (n + 1) (set strips strip (extended top (get_or strips strip e)))
IsRowStacked-extended {extent} {bottom} {top} {n} {below} {row} {strips} d e at strip state within passed strip_within under =
    let run = get_or row n d in
    let here = state.runs.each n d within in
    let line = left_line-within row n extent.right d within in
    let next = next_line row n strip d state.runs within in
    let new = extended top (get_or strips strip e) in
    record {
      wide = state.wide;
      band = state.band;
      runs = AreRuns-set row n strip d within state.runs;
      runs_below = state.runs_below;
      partly = up_to_next row n strip d state.wide state.band.tall state.runs within
          (IsPartlyStacked-extended run strip e state.band here (state.runs.covered n d within) (rw line at state.partly) strip_within under.reaches under.same);
      passed = λ k f above before. omega (arith, next, passed_here d at state within passed k f above before, here.wide);
      named = named_more top row n (named strip run) strips (set strips strip new) within state.named
          (λ p. IsSomeAnd-set (ReachesUp top p) strips strip p.strip new e (λ reaches. record { left = reaches.left; right = reaches.right; top = refl; kind = reaches.kind }))
          (IsSomeAnd-set_same (ReachesUp top (named strip run)) strips strip new strip_within
          (record { left = under.same.left; right = under.same.right; top = refl; kind = under.same.kind }));
      named_below = λ k f inside right. IsSomeAnd-set (ReachesUp bottom (get_or below k f)) strips strip (get_or below k f).strip new e
          (λ reaches. absurd (omega (arith, next, here.wide, under.same.left, reaches.left)))
          (state.named_below k f inside (omega (arith, next, here.wide, line)));
    }

-- one run more, which begins a strip
pub IsRowStacked-new_strip :
    {extent : Rect} {picture : Picture} {bottom top index n : ℕ} {below row : List Run} {strips : List Piece} (d : Run) (at : ℕ)
    → IsRowStacked extent picture bottom top below row index n strips → n < length row → AllWithin (λ under. under.left < (get_or row n d).left) below index at
    → BeginsAt extent picture bottom (get_or row n d)
    → IsRowStacked extent picture bottom top below (set row n (named (length strips) (get_or row n d))) at (n + 1) (strips ++ new_strip bottom top (get_or row n d) ∷ [])
IsRowStacked-new_strip {extent} {bottom} {top} {n} {below} {row} {strips} d at state within passed begins =
    let run = get_or row n d in
    let here = state.runs.each n d within in
    let line = left_line-within row n extent.right d within in
    let next = next_line row n (length strips) d state.runs within in
    let new = new_strip bottom top run in
    record {
      wide = state.wide;
      band = state.band;
      runs = AreRuns-set row n (length strips) d within state.runs;
      runs_below = state.runs_below;
      partly = up_to_next row n (length strips) d state.wide state.band.tall state.runs within
          (IsPartlyStacked-new_strip run state.band here (state.runs.covered n d within) (rw line at state.partly) begins);
      passed = λ k f above before. omega (arith, next, passed_here d at state within passed k f above before, here.wide);
      named = named_more top row n (named (length strips) run) strips (strips ++ new ∷ []) within state.named
          (λ p. IsSomeAnd-append (ReachesUp top p) strips (new ∷ []) p.strip)
          (IsSomeAnd-push (ReachesUp top (named (length strips) run)) strips new (record { left = refl; right = refl; top = refl; kind = refl }));
      named_below = λ k f inside right. IsSomeAnd-append (ReachesUp bottom (get_or below k f)) strips (new ∷ []) (get_or below k f).strip
          (state.named_below k f inside (omega (arith, next, here.wide, line)));
    }

-- where one more run begins a strip, there are more strips than are stacked so far
pub length-lt-covered_count_of_row :
    {extent : Rect} {picture : Picture} {bottom top index n : ℕ} {below row : List Run} {strips : List Piece} (d : Run)
    → IsRowStacked extent picture bottom top below row index n strips → n < length row
    → BeginsAt extent picture bottom (get_or row n d) → length strips < covered_count (up_to top extent) picture
length-lt-covered_count_of_row {extent} {n} {row} d state within begins =
    length-lt-covered_count (get_or row n d) state.band (state.runs.each n d within) (state.runs.covered n d within) (rw (left_line-within row n extent.right d within) at state.partly) begins
