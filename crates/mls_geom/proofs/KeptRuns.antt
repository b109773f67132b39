-- The runs of a row by their strips: they stay where a strip's top line is set and where a strip is added.
use Rattle.mls_geom.proofs.Common.{◌≡◌, ℕ, ◌<◌, ◌≤◌, ◌==◌, nat_lt, nat_le, if◌then◌else◌, Bool, true, false, Some, List, [], length, get_or, set, map, All, slice_get, refl, ap, sym, ◌∙◌, le_refl, arith, AllWithin, IsPartitionPoint, IsPartitionedBy, option_map_or, nat_tests, get_or_default, get_or-map, length-map, All-nil, slice_get-get_or}
use Rattle.mls_geom.proofs.Definitions.{Picture, AreInOrder, IsChanging, begins_by, ends_before, runs_of, staged, strip_of, IsKept, run_of, strip_at, extended, world, Piece, Run}
use Rattle.mls_geom.proofs.CornerCounts.{nothing_stacked}
use Rattle.mls_geom.proofs.RowRuns.{runs_ascend}
use Rattle.mls_geom.proofs.StagedStrips.{run_of-extended, staged_right}

-- what `strip_at` gives past the list's end
abbrev pub no_strip : Piece
no_strip = record { rect = record { left = 0; bottom = 0; right = 0; top = 0 }; kind = 0 }

-- the runs stay where one of their strips is extended or ended
pub runs_of-extended : (strips : List Piece) (row : List ℕ) (k top : ℕ) → k < length strips → runs_of (set strips k (extended top (strip_at strips k))) row ≡ runs_of strips row
runs_of-extended strips row k top within = ap (λ f. map f row) (run_of-extended strips k top within)

-- what holds of runs from one index up to another holds of their strips
pub AllWithin-strips :
    (P : Run → Type 0) (strips : List Piece) (row : List ℕ) (from to : ℕ) → to ≤ length row → AllWithin P (runs_of strips row) from to
    → AllWithin (λ k. P (run_of strips k)) row from to
AllWithin-strips P strips row from to within runs = λ k d above below.
    rw (← get_or-map (run_of strips) row k d (run_of strips d) (omega arith)) (runs k (run_of strips d) above below)

-- and what holds of their strips holds of the runs
pub AllWithin-runs :
    (P : Run → Type 0) (strips : List Piece) (row : List ℕ) (from to : ℕ) → to ≤ length row → AllWithin (λ k. P (run_of strips k)) row from to
    → AllWithin P (runs_of strips row) from to
AllWithin-runs P strips row from to within held = λ k d above below.
    rw (get_or-map (run_of strips) row k 0 d (omega arith)) (held k 0 above below)

-- a staged strip has its bottom line
staged_bottom : (β : Bool) (z : ℕ) (strip : Piece) → (if β then extended z strip else strip).rect.bottom ≡ strip.rect.bottom
staged_bottom true z strip = refl
staged_bottom false z strip = refl

-- a strip begins below the band, or with it
pub bottom_low :
    {picture : Picture} {bottom top column passed open_from : ℕ} {strips : List Piece} {row next : List ℕ} (k : ℕ) → k < length strips
    → IsChanging picture bottom top column strips row next passed open_from → (strip_at strips k).rect.bottom ≤ bottom
bottom_low {bottom = bottom} {top = top} {column = column} {strips = strips} k within state =
    let strip = strip_at strips k in
    let low = state.partly.low k no_strip (rw (length-map strips (staged bottom top column)) within) in
    let same = staged_bottom (strip.rect.top == world.top) (if nat_lt strip.rect.left column then top else bottom) strip in
    rw (← same) (rw (get_or-map (staged bottom top column) strips k no_strip no_strip within) at low)

-- one that reaches on begins below it
pub bottom_below :
    {picture : Picture} {bottom top column passed open_from : ℕ} {strips : List Piece} {row next : List ℕ} (n : ℕ) → open_from ≤ n → n < length row
    → IsChanging picture bottom top column strips row next passed open_from → (strip_of strips row n).rect.bottom < bottom
bottom_below {bottom = bottom} {top = top} {column = column} {strips = strips} {row = row} n reached within state =
    let k = get_or row n 0 in
    let (reaches, right) = state.open_right n 0 reached within in
    let known = state.known n 0 within in
    let at = get_or-map (staged bottom top column) strips k no_strip no_strip known ∙ staged_right bottom top column (strip_at strips k) reaches right in
    let to_do = rw at at (state.partly.to_do k no_strip (rw (length-map strips (staged bottom top column)) known)) in
    (to_do right).tall

module _ (strips : List Piece) (row : List ℕ) (known : All (λ k. k < length strips) row) (order : AreInOrder (runs_of strips row)) (line : ℕ) where
  -- the strip of a run of the row, its lines, and the tests of them
  there : (n d : ℕ) → n < length row → slice_get strips (get_or row n d) ≡ Some (strip_at strips (get_or row n d))
  there n d within = slice_get-get_or strips (get_or row n d) _ (known n d within)

  run_at : (n d : ℕ) → n < length row → get_or (runs_of strips row) n (run_of strips d) ≡ run_of strips (get_or row n d)
  run_at n d within = get_or-map (run_of strips) row n d (run_of strips d) within

  up : (m n d : ℕ) → m ≤ n → n < length row
      → ((strip_at strips (get_or row m d)).rect.left ≤ (strip_at strips (get_or row n d)).rect.left) × ((strip_at strips (get_or row m d)).rect.right ≤ (strip_at strips (get_or row n d)).rect.right)
  up m n d before within =
      rw (run_at m d (omega arith), run_at n d within) at (runs_ascend (runs_of strips row) m n (run_of strips d) order before (rw (length-map row (run_of strips)) within))

  ends : (n d : ℕ) → n < length row → ends_before strips line (get_or row n d) ≡ nat_lt (strip_at strips (get_or row n d)).rect.right line
  ends n d within = ap (λ o. option_map_or (λ (strip : Piece). nat_lt strip.rect.right line) o false) (there n d within)

  begins : (n d : ℕ) → n < length row → begins_by strips line (get_or row n d) ≡ nat_le (strip_at strips (get_or row n d)).rect.left line
  begins n d within = ap (λ o. option_map_or (λ (strip : Piece). nat_le strip.rect.left line) o false) (there n d within)

  -- the runs that pass a test come first
  parted_by_ends : IsPartitionedBy (ends_before strips line) row
  parted_by_ends m n d before within is =
      let higher = up m n d before within in
      let less = rw (ends n d within) at is in
      rw (ends m d (omega arith)) (grind (arith, nat_tests))

  parted_by_begins : IsPartitionedBy (begins_by strips line) row
  parted_by_begins m n d before within is =
      let higher = up m n d before within in
      let less = rw (begins n d within) at is in
      rw (begins m d (omega arith)) (grind (arith, nat_tests))

  -- the runs on both sides of the point that a search finds
  pub ends_point :
      (i : ℕ) → i ≤ length row → (IsPartitionedBy (ends_before strips line) row → IsPartitionPoint (λ k. ends_before strips line k ≡ true) (λ k. ends_before strips line k ≡ false) row i)
      → IsPartitionPoint (λ run. run.right < line) (λ run. line ≤ run.right) (runs_of strips row) i
  ends_point i within found =
      let point = found parted_by_ends in (
        AllWithin-runs (λ run. run.right < line) strips row 0 i within (λ n d low high. (let is = rw (ends n d (omega arith)) at (point.0 n d low high) in grind (arith, nat_tests))),
        rw (length-map row (run_of strips))
            (AllWithin-runs (λ run. line ≤ run.right) strips row i (length row) (le_refl (length row)) (λ n d low high. (let is = rw (ends n d high) at (point.1 n d low high) in grind (arith, nat_tests)))),
      )

  pub begins_point :
      (i : ℕ) → i ≤ length row → (IsPartitionedBy (begins_by strips line) row → IsPartitionPoint (λ k. begins_by strips line k ≡ true) (λ k. begins_by strips line k ≡ false) row i)
      → IsPartitionPoint (λ run. run.left ≤ line) (λ run. line < run.left) (runs_of strips row) i
  begins_point i within found =
      let point = found parted_by_begins in (
        AllWithin-runs (λ run. run.left ≤ line) strips row 0 i within (λ n d low high. (let is = rw (begins n d (omega arith)) at (point.0 n d low high) in grind (arith, nat_tests))),
        rw (length-map row (run_of strips))
            (AllWithin-runs (λ run. line < run.left) strips row i (length row) (le_refl (length row)) (λ n d low high. (let is = rw (begins n d high) at (point.1 n d low high) in grind (arith, nat_tests)))),
      )

-- other strips of the same runs
pub AllWithin-kept :
    (P : Run → Type 0) (old new : List Piece) (row : List ℕ) (from to : ℕ) → to ≤ length row → runs_of new row ≡ runs_of old row → AllWithin (λ k. P (run_of old k)) row from to
    → AllWithin (λ k. P (run_of new k)) row from to
AllWithin-kept P old new row from to within same held = AllWithin-strips P new row from to within (rw same (AllWithin-runs P old row from to within held))

-- at the world's bottom nothing is kept
pub IsKept-none : (picture : Picture) → IsKept picture world.bottom [] []
IsKept-none picture = record {
  stacked = nothing_stacked world picture;
  reaching = All-nil (λ k. (k < 0) × ((strip_at [] k).rect.top ≡ world.top));
  ended = λ k within. absurd (omega arith);
}

-- a run of the row, as it is read
pub run_read :
    (strips those : List Piece) (row : List ℕ) (i k : ℕ) (e : Piece) (d : Run) → All (λ k. k < length strips) row → i < length row → k ≡ get_or row i k → those ≡ strips
    → get_or (runs_of strips row) i d ≡ record { left = (get_or those k e).rect.left; right = (get_or those k e).rect.right; kind = (get_or those k e).kind; strip = k }
run_read strips those row i k e d known within is same =
    let k_is : k ≡ get_or row i 0 = is ∙ get_or_default row i k 0 within in
    let strip_is : get_or those k e ≡ strip_at strips k = ap (λ (list : List Piece). get_or list k e) same ∙ get_or_default strips k e _ (rw k_is (known i 0 within)) in
    get_or-map (run_of strips) row i 0 d within ∙ ap (run_of strips) (sym k_is)
    ∙ ap (λ (strip : Piece). record { left = strip.rect.left; right = strip.rect.right; kind = strip.kind; strip = k }) (sym strip_is)
