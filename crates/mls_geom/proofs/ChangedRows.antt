-- A row of which marks have the slots that change: outside them the row below goes on.
use Rattle.mls_geom.proofs.Common.{◌≡◌, ℕ, zero, suc, ◌+◌, ◌-◌, ◌<◌, ◌≤◌, ◌⊎◌, nat_lt, Bool, List, [], ◌∷◌, ◌++◌, length, drop, get_or, slice_index, take, inl, inr, sym, ap, ◌∙◌, le_refl, arith, add-zero, append-nil, AllWithin, Contains, HoldsAt, slice_range, IsNonDecreasingBy, IsPermutation, cases_eq, cases_lt, cond-false, cond-true, le-ltb, lt-ltb, append_assoc, get_or-drop, get_or-map, length-drop, length-map, take_more, AllPairs-from_increasing, Contains-get_or, All-permutation, IsPermutation-sym}
use Rattle.mls_geom.proofs.Definitions.{uncovered, Picture, IsRun, AreInOrder, IsChange, IsChanging, IsClear, IsEnd, ShowsSlots, runs_of, strip_of, AreMarks, HaveChanges, IsKept, ShowsRow, run_of, shown_below, strip_at, AreRuns, AreCuts, IsTree, world, Span, Piece, Run, Tree}
use Rattle.mls_geom.proofs.CutLines.{rises, slot_at}
use Rattle.mls_geom.proofs.KeptRuns.{AllWithin-strips}
use Rattle.mls_geom.proofs.RowChanges.{IsChanging-finish, IsChanging-kept, IsChanging-uncovered}
use Rattle.mls_geom.proofs.RowRuns.{AreInOrder-runs, AreRuns-alike, IsRun-like, left_line, left_line-past, left_line-within, runs_ascend, uncovered-between}

-- the row below, as a row of a picture
abbrev pub below : Picture → ℕ → Picture
below picture y x z = shown_below picture x y

-- the runs of a kept row are those of the row below
pub runs_below : (picture : Picture) (y : ℕ) (strips : List Piece) (row : List ℕ) → IsKept picture y strips row → AreRuns world (below picture y) y (runs_of strips row)
runs_below picture y strips row kept = elim (cases_lt world.bottom y) [
  | inl above ↦
      let same : (x : ℕ) → picture x (y - 1) ≡ shown_below picture x y = λ x. sym (cond-true (nat_lt world.bottom y) (picture x (y - 1)) uncovered (lt-ltb world.bottom y above)) in
      AreRuns-alike y (λ x _ _. sym (same x)) (kept.stacked.runs above)
  | inr low ↦
      let none = kept.stacked.first low in
      let bare : (x : ℕ) → shown_below picture x y ≡ uncovered = λ x. cond-false (nat_lt world.bottom y) (picture x (y - 1)) uncovered (le-ltb world.bottom y low) in
      rw none (record {
        each = λ k d within. absurd (omega arith);
        covered = λ k d within. absurd (omega arith);
        whole = λ x from to some. absurd (some (bare x));
        ordered = λ i j d before within. absurd (omega arith);
      })
]

-- marks in another order
HaveChanges-sorted :
    (lines : List ℕ) (old new : List Span) (picture : Picture) (y : ℕ) → IsPermutation new old → HaveChanges lines old picture y → HaveChanges lines new picture y
HaveChanges-sorted lines old new picture y moved have = λ s x within from to unmarked. have s x within from to
    (λ (k, mark, inside, is, has).
    (let (j, there, at) = rw is at (All-permutation (λ m. Contains new m) new old moved (λ j d here. Contains-get_or new j d here) k mark inside) in
    unmarked (j, mark, there, at, has)))

-- up to the column the row is changed: marks before the index and runs before another one are passed, and no later mark or run reaches to it
pub record IsDone (lines : List ℕ) (runs : List Run) (marks : List Span) (index passed column : ℕ) : Type 0 where
  pub within : passed ≤ length runs
  pub from : world.left ≤ column
  pub to : column ≤ world.right
  pub marks_left : AllWithin (λ mark. slice_index lines mark.end ≤ column) marks 0 index
  pub apart : AllWithin (λ mark. AllWithin (λ run. slice_index lines mark.end < run.left) runs passed (length runs)) marks 0 index
  pub runs_left : AllWithin (λ run. run.right ≤ column) runs 0 passed
  pub start : index ≤ 0 → column ≤ world.left
  pub clear : 0 < index → index < length marks → HoldsAt (IsClear lines runs column) marks index

pub IsDone-none : (lines : List ℕ) (runs : List Run) (marks : List Span) → IsDone lines runs marks 0 0 world.left
IsDone-none lines runs marks = record {
  within = omega arith;
  from = le_refl world.left;
  to = omega arith;
  marks_left = λ k d low high. absurd (omega arith);
  apart = λ k d low high. absurd (omega arith);
  runs_left = λ k d low high. absurd (omega arith);
  start = λ _. le_refl world.left;
  clear = λ some. absurd (omega arith);
}

module _ (lines : List ℕ) (cuts : AreCuts world lines) (runs : List Run) (order : AreInOrder runs) (marks : List Span) (index passed column : ℕ) (done : IsDone lines runs marks index passed column) (to : ℕ)
    (slots met : Span) (change : IsChange lines runs marks index to slots met) where
  -- the slots of a change lie in the world
  inside_left : world.left ≤ slice_index lines slots.first
  inside_left = omega (arith, cuts.first, rises lines cuts.ascending 0 slots.first (omega arith) (omega (arith, change.all.wide, change.all.within)))

  inside_right : slice_index lines slots.end ≤ world.right
  inside_right = omega (arith, cuts.last, rises lines cuts.ascending slots.end (length lines - 1) (omega (arith, change.all.within)) (omega (arith, change.all.within)))

  up : slice_index lines slots.first ≤ slice_index lines slots.end
  up = rises lines cuts.ascending slots.first slots.end (omega (arith, change.all.wide)) change.all.within

  -- a change begins right of the one before it
  apart_before : 0 < index → column < slice_index lines slots.first
  apart_before some = change.all.begins column (done.clear some (omega (arith, change.all.more, change.all.to_within)))

  -- what is changed so far, and the runs passed, end where the change begins, or left of it
  column_to : column ≤ slice_index lines slots.first
  column_to = elim (cases_lt 0 index) [
    | inl some ↦ omega (arith, apart_before some)
    | inr first ↦ omega (arith, done.start first, inside_left)
  ]

  pub passed_to : passed ≤ met.first
  passed_to = elim (cases_lt met.first passed) [
    | inl less ↦
        let d : Run = record { left = 0; right = 0; kind = 0; strip = 0 } in
        let met_first : met.first < length runs = omega (arith, done.within) in
        absurd (omega (arith, done.runs_left met.first d (omega arith) less, order.wide met.first d met_first, change.all.left_in met.first d (le_refl met.first) met_first, column_to))
    | inr more ↦ more
  ]

  -- with the change, up to its right line
  pub IsDone-more : IsDone lines runs marks to met.end (slice_index lines slots.end)
  IsDone-more = record {
    within = change.all.met_within;
    from = omega (arith, inside_left, up);
    to = inside_right;
    marks_left = λ k d low high. elim (cases_lt k index) [
      | inl earlier ↦ omega (arith, done.marks_left k d low earlier, column_to, up)
      | inr later ↦ rises lines cuts.ascending (get_or marks k d).end slots.end (change.all.end k d later high) change.all.within
    ];
    apart = λ k d low high n e above below. elim (cases_lt k index) [
      | inl earlier ↦ done.apart k d low earlier n e (omega (arith, passed_to, change.all.onward)) below
      | inr later ↦ change.all.apart_right k d later high n e above below
    ];
    runs_left = change.all.right_in;
    start = λ none. absurd (omega (arith, change.all.more));
    clear = λ some. change.next;
  }

  -- where the runs of the row below lie that a change meets or touches, and those right of them
  pub met_left : (strips : List Piece) (row : List ℕ) → runs_of strips row ≡ runs → AllWithin (λ k. (strip_at strips k).rect.left < slice_index lines slots.end) row met.first met.end
  met_left strips row is =
      let count : length runs ≡ length row = ap length (sym is) ∙ length-map row (run_of strips) in
      AllWithin-strips (λ run. run.left < slice_index lines slots.end) strips row met.first met.end (omega (arith, count, change.all.met_within))
      (λ k d low high. rw is (omega (arith, change.all.right_in k d (omega arith) high, order.wide k d (omega (arith, change.all.met_within)))))

  pub beyond_right : (strips : List Piece) (row : List ℕ) → runs_of strips row ≡ runs → AllWithin (λ k. slice_index lines slots.end ≤ (strip_at strips k).rect.left) row met.end (length row)
  beyond_right strips row is =
      let count : length runs ≡ length row = ap length (sym is) ∙ length-map row (run_of strips) in
      AllWithin-strips (λ run. slice_index lines slots.end ≤ run.left) strips row met.end (length row) (le_refl (length row))
      (λ k d low high. rw is (change.all.right_out k d low (omega (arith, count))))

-- a row and the one below it, with its runs and the marks of the slots that change
module _
    (picture : Picture) (y : ℕ) (lines : List ℕ) (cuts : AreCuts world lines) (runs : List Run) (list : AreRuns world (below picture y) y runs) (marks : List Span) (are : AreMarks lines marks)
    (changes : HaveChanges lines marks picture y) where
  -- a square that no mark has is as in the row below
  unmarked : (x : ℕ) → world.left ≤ x → x < world.right → ((k : ℕ) (d : Span) → k < length marks → (x < slice_index lines (get_or marks k d).first) ⊎ (slice_index lines (get_or marks k d).end ≤ x))
      → picture x y ≡ below picture y x y
  unmarked x from to avoid =
      let whole : 0 + (length lines - 1) ≡ length lines - 1 = omega arith in
      let (s, _, s_in, after, before) = slot_at lines x 0 (length lines - 1) (omega (arith, cuts.first)) (rw whole (omega (arith, cuts.last))) in
      changes s x (omega (arith, s_in)) after before
      (λ (k, mark, within, is, has).
      (let at : (mark.first < mark.end) × (mark.end < length lines) = rw is at (are k mark within) in
      let side : (x < slice_index lines mark.first) ⊎ (slice_index lines mark.end ≤ x) = rw is at (avoid k mark within) in
      elim side [
        | inl left ↦ omega (arith, left, after, rises lines cuts.ascending mark.first s has.0 (omega (arith, s_in)))
        | inr right ↦ omega (arith, right, before, rises lines cuts.ascending (s + 1) mark.end (omega (arith, has.1)) at.1)
      ]))

  module _
      (index passed column : ℕ) (done : IsDone lines runs marks index passed column) (n bound : ℕ) (onward : passed ≤ n) (within : n ≤ length runs) (column_to : column ≤ bound) (bound_to : bound ≤ world.right)
      (ahead : AllWithin (λ mark. bound ≤ slice_index lines mark.first) marks index (length marks))
      (apart : AllWithin (λ mark. AllWithin (λ run. run.right < slice_index lines mark.first) runs 0 n) marks index (length marks))
      (left_of : AllWithin (λ run. run.right ≤ bound) runs 0 n) (right_of : AllWithin (λ run. bound ≤ run.left) runs n (length runs)) where
    -- a run that no mark meets or touches goes on
    IsRun-kept : (u : ℕ) (d : Run) → passed ≤ u → u < n → IsRun world picture (get_or runs u d).left (get_or runs u d).right y (get_or runs u d).kind
    IsRun-kept u d low high = IsRun-like y
        (λ x from to left right. unmarked x left right
        (λ k e inside. elim (cases_lt k index) [
          | inl earlier ↦ inr (omega (arith, done.apart k e (omega arith) earlier u d low (omega arith)))
          | inr later ↦ inl (omega (arith, apart k e later inside u d (omega arith) high))
        ]))
        (list.each u d (omega arith))

    -- between such runs no square is covered
    uncovered-kept :
        (u x : ℕ) → passed ≤ u → u ≤ n → column ≤ x → x < bound → x < left_line runs u world.right → ((m : ℕ) (d : Run) → m < u → m < length runs → (get_or runs m d).right ≤ x)
        → picture x y ≡ uncovered
    uncovered-kept u x low high from to left before =
        unmarked x (omega (arith, done.from)) (omega arith)
        (λ k e inside. elim (cases_lt k index) [
          | inl earlier ↦ inr (omega (arith, done.marks_left k e (omega arith) earlier))
          | inr later ↦ inl (omega (arith, ahead k e later inside))
        ])
        ∙ uncovered-between runs u x list (omega arith) (omega (arith, done.from)) left before

    -- with the strips of the runs
    module _ (strips : List Piece) (row : List ℕ) (is : runs_of strips row ≡ runs) where
      count : length runs ≡ length row
      count = ap length (sym is) ∙ length-map row (run_of strips)

      run_at : (u : ℕ) (d : Run) → u < length row → get_or runs u d ≡ run_of strips (get_or row u 0)
      run_at u d inside = ap (λ rs. get_or rs u d) (sym is) ∙ get_or-map (run_of strips) row u 0 d inside

      -- run by run the row below goes on
      IsChanging-kept_runs :
          {top : ℕ} {next : List ℕ} (j : ℕ) → passed + j ≤ n → IsChanging picture y top column strips row next passed passed
          → (here : ℕ) × (column ≤ here) × (here ≤ bound) × ((m : ℕ) (d : Run) → m < passed + j → (get_or runs m d).right ≤ here)
          × IsChanging picture y top here strips row (next ++ slice_range row passed (passed + j)) (passed + j) (passed + j)
      IsChanging-kept_runs {next = next} zero to state =
          let none : passed + 0 - passed ≡ 0 = omega arith in
          (column, le_refl column, column_to, λ m d less. done.runs_left m d (omega arith) (omega arith), rw (none, add-zero, append-nil next) state)
      IsChanging-kept_runs {next = next} (suc j) to state =
          let (here, from, up_to, left, so_far) = IsChanging-kept_runs j (omega arith) state in
          let inside : passed + j < length row = omega (arith, within, count) in
          let d = run_of strips 0 in
          let at = run_at (passed + j) d inside in
          let run = IsRun-kept (passed + j) d (omega arith) (omega arith) in
          let bounded = left_of (passed + j) d (omega arith) (omega arith) in
          let none : (x : ℕ) → here ≤ x → x < (get_or runs (passed + j) d).left → picture x y ≡ uncovered = λ x after before.
          uncovered-kept (passed + j) x (omega arith) (omega arith) (omega arith) (omega (arith, run.wide, bounded))
          (rw (left_line-within runs (passed + j) world.right d (omega (arith, within))) before) (λ m e less _. omega (arith, left m e less)) in
          let step = IsChanging-kept (passed + j) inside (rw at at run) (rw at at none) so_far in
          let open_right = (state.open_right (passed + j) 0 (omega arith) inside).1 in
          let more : passed + suc j - passed ≡ j + 1 = omega arith in
          let last : get_or (drop passed row) j 0 ≡ get_or row (passed + j) 0 = get_or-drop passed row j 0 in
          let rest : slice_range row passed (passed + suc j) ≡ slice_range row passed (passed + j) ++ get_or row (passed + j) 0 ∷ [] =
          (let fewer : passed + j - passed ≡ j = omega arith in rw (more, fewer) (take_more (drop passed row) j 0 (omega (arith, length-drop passed row)) ∙ ap (λ k. take j (drop passed row) ++ k ∷ []) last)) in
          let on : passed + suc j ≡ passed + j + 1 = omega arith in
          let order = AreInOrder-runs runs list in (
            (strip_of strips row (passed + j)).rect.right,
            omega (arith, open_right, rw at at run.wide),
            rw at at bounded,
            λ m e less. (let same = run_at (passed + j) e inside in rw same at (runs_ascend runs m (passed + j) e order (omega arith) (omega (arith, within))).1),
            rw (rest, on, ← append_assoc next (slice_range row passed (passed + j)) (get_or row (passed + j) 0 ∷ [])) step,
          )

      -- up to the line the row below goes on
      IsChanging-to_bound :
          {top : ℕ} {next : List ℕ} → IsChanging picture y top column strips row next passed passed
          → IsChanging picture y top bound strips row (next ++ slice_range row passed n) n n
      IsChanging-to_bound state =
          let all : passed + (n - passed) ≡ n = omega arith in
          let (here, from, up_to, left, so_far) = rw all at (IsChanging-kept_runs (n - passed) (omega arith) state) in
          let line : bound ≤ left_line runs n world.right = elim (cases_lt n (length runs)) [
            | inl more ↦ (let d = run_of strips 0 in rw (left_line-within runs n world.right d more) (right_of n d (le_refl n) more))
            | inr none ↦ rw (left_line-past runs n world.right none) bound_to
          ] in
          IsChanging-uncovered bound up_to
          (λ x after before. uncovered-kept n x onward (le_refl n) (omega arith) before (omega (arith, line)) (λ m e less _. omega (arith, left m e less)))
          (AllWithin-strips (λ run. bound ≤ run.left) strips row n (length row) (le_refl (length row)) (λ k d low high. rw is (right_of k d low (omega (arith, count))))) so_far

  module _ (index passed column : ℕ) (done : IsDone lines runs marks index passed column) where
    -- after the last mark the rest of the row below goes on
    IsChanging-rest :
        {top : ℕ} {strips : List Piece} {row next : List ℕ} → length marks ≤ index → runs_of strips row ≡ runs → IsChanging picture y top column strips row next passed passed
        → IsChanging picture y top world.right strips row (next ++ slice_range row passed (length row)) (length row) (length row)
    IsChanging-rest {strips = strips} {row = row} last is state =
        let count : length runs ≡ length row = ap length (sym is) ∙ length-map row (run_of strips) in
        IsChanging-to_bound index passed column done (length row) world.right (omega (arith, count, done.within)) (omega (arith, count)) done.to (le_refl world.right)
        (λ k d low high. absurd (omega arith)) (λ k d low high. absurd (omega arith)) (λ k d low high. (list.each k d (omega (arith, count))).to) (λ k d low high. absurd (omega (arith, count))) strips row is state

    module _ (sorted : IsNonDecreasingBy (λ (mark : Span). mark.first) marks) (to : ℕ) (slots met : Span) (change : IsChange lines runs marks index to slots met) where
      order : AreInOrder runs
      order = AreInOrder-runs runs list

      -- marks from the change on begin at its left line or right of it
      first_ahead : AllWithin (λ mark. slice_index lines slots.first ≤ slice_index lines mark.first) marks index (length marks)
      first_ahead = λ k d low high. rises lines cuts.ascending slots.first (get_or marks k d).first (change.all.first k d low high) (omega (arith, are k d high))

      from_left : world.left ≤ slice_index lines slots.first
      from_left = inside_left lines cuts runs order marks index passed column done to slots met change

      to_right : slice_index lines slots.end ≤ world.right
      to_right = inside_right lines cuts runs order marks index passed column done to slots met change

      upward : slice_index lines slots.first < slice_index lines slots.end
      upward = AllPairs-from_increasing lines cuts.ascending slots.first slots.end 0 change.all.wide change.all.within

      reached : column ≤ slice_index lines slots.first
      reached = column_to lines cuts runs order marks index passed column done to slots met change

      -- up to a change the row below goes on
      IsChanging-to_change :
          {top : ℕ} {strips : List Piece} {row next : List ℕ} → runs_of strips row ≡ runs → IsChanging picture y top column strips row next passed passed
          → IsChanging picture y top (slice_index lines slots.first) strips row (next ++ slice_range row passed met.first) met.first met.first
      IsChanging-to_change {strips = strips} {row = row} is state =
          IsChanging-to_bound index passed column done met.first (slice_index lines slots.first) (passed_to lines cuts runs order marks index passed column done to slots met change)
          (omega (arith, change.all.onward, change.all.met_within)) reached (omega (arith, upward, to_right)) first_ahead change.all.apart_left change.all.left_out change.all.left_in strips row is state

      -- at its left line each run ends
      IsEnd-first : IsEnd picture y (slice_index lines slots.first)
      IsEnd-first = λ inside right same. elim (cases_eq (picture (slice_index lines slots.first) y) uncovered) [
        | inl none ↦ none
        | inr some ↦
            let l = slice_index lines slots.first in
            let strict : column < l = elim (cases_lt 0 index) [
              | inl later ↦ apart_before lines cuts runs order marks index passed column done to slots met change later
              | inr first ↦ omega (arith, done.start first)
            ] in
            let before = unmarked (l - 1) (omega arith) (omega arith)
            (λ k d within. elim (cases_lt k index) [
              | inl earlier ↦ inr (omega (arith, done.marks_left k d (omega arith) earlier))
              | inr later ↦ inl (omega (arith, first_ahead k d later within))
            ]) in
            let (u, run, u_in, is, has) = list.whole (l - 1) (omega arith) (omega arith) (λ none. some (sym same ∙ before ∙ none)) in
            let less : u < met.first = elim (cases_lt u met.first) [
              | inl sooner ↦ sooner
              | inr more ↦ absurd (omega (arith, rw is at (change.all.left_in u run more u_in), has.0))
            ] in
            let right_is : run.right ≡ l = omega (arith, rw is at (change.all.left_out u run (omega arith) less), has.1) in
            let here = unmarked l from_left right
            (λ k d within. elim (cases_lt k index) [
              | inl earlier ↦ inr (omega (arith, done.marks_left k d (omega arith) earlier))
              | inr later ↦ inl (omega (arith, rw is at (change.all.apart_left k d later within u run (omega arith) less), right_is))
            ]) in
            let r = rw is at (list.each u run u_in) in
            absurd (r.ends_right (omega arith) (rw right_is (sym here ∙ sym same ∙ before ∙ r.one_kind (l - 1) has.0 has.1)))
      ]

      -- marks after the change begin right of it
      later_ahead : (k : ℕ) (d : Span) → to ≤ k → k < length marks → slice_index lines slots.end < slice_index lines (get_or marks k d).first
      later_ahead k d low high =
          omega (arith, (change.next (omega arith) d).begins, rises lines cuts.ascending (get_or marks to d).first (get_or marks k d).first (sorted to k d low high) (omega (arith, are k d high)))

      -- and at its right line
      IsEnd-end : IsEnd picture y (slice_index lines slots.end)
      IsEnd-end = λ inside right same. elim (cases_eq (picture (slice_index lines slots.end) y) uncovered) [
        | inl none ↦ none
        | inr some ↦
            let l = slice_index lines slots.end in
            let here = unmarked l (omega arith) right
            (λ k d within. elim (cases_lt k to) [
              | inl met_here ↦ elim (cases_lt k index) [
                | inl earlier ↦ inr (omega (arith, done.marks_left k d (omega arith) earlier, reached, upward))
                | inr later ↦ inr (rises lines cuts.ascending (get_or marks k d).end slots.end (change.all.end k d later met_here) change.all.within)
              ]
              | inr later ↦ inl (later_ahead k d later within)
            ]) in
            let (u, run, u_in, is, has) = list.whole l (omega arith) right (λ none. some (here ∙ none)) in
            let more : met.end ≤ u = elim (cases_lt u met.end) [
              | inl sooner ↦ absurd (omega (arith, rw is at (change.all.right_in u run (omega arith) sooner), has.1))
              | inr later ↦ later
            ] in
            let left_is : run.left ≡ l = omega (arith, rw is at (change.all.right_out u run more u_in), has.0) in
            let before = unmarked (l - 1) (omega arith) (omega arith)
            (λ k d within. elim (cases_lt k to) [
              | inl met_here ↦ elim (cases_lt k index) [
                | inl earlier ↦ inr (omega (arith, done.marks_left k d (omega arith) earlier, reached, upward))
                | inr later ↦ inr (omega (arith, rw is at (change.all.apart_right k d later met_here u run more u_in), left_is))
              ]
              | inr later ↦ inl (omega (arith, later_ahead k d later within))
            ]) in
            let r = rw is at (list.each u run u_in) in
            absurd (r.ends_left (omega arith) (rw left_is (sym before ∙ same ∙ here ∙ r.one_kind l has.0 has.1)))
      ]

-- the same of a kept row, whose marks were sorted
module _
    (lines : List ℕ) (cuts : AreCuts world lines) (strips : List Piece) (row : List ℕ) (old marks : List Span) (moved : IsPermutation old marks) (are : AreMarks lines old)
    (sorted : IsNonDecreasingBy (λ (mark : Span). mark.first) marks) (index passed column : ℕ) (done : IsDone lines (runs_of strips row) marks index passed column)
    (picture : Picture) (y : ℕ) (kept : IsKept picture y strips row) (changes : HaveChanges lines old picture y) where
  are_sorted : AreMarks lines marks
  are_sorted = All-permutation (λ mark. (mark.first < mark.end) × (mark.end < length lines)) old marks moved are

  have_sorted : HaveChanges lines marks picture y
  have_sorted = HaveChanges-sorted lines old marks picture y (IsPermutation-sym old marks moved) changes

  -- after the last mark the row is the changed one
  pub IsKept-rest :
      {top : ℕ} {new : List Piece} {next : List ℕ} → length marks ≤ index → runs_of new row ≡ runs_of strips row → IsChanging picture y top column new row next passed passed
      → IsKept picture top new (next ++ slice_range row passed (length row))
  IsKept-rest last is state =
      IsChanging-finish (IsChanging-rest picture y lines cuts (runs_of strips row) (runs_below picture y strips row kept) marks are_sorted have_sorted index passed column done last is state)

  module _ (to : ℕ) (slots met : Span) (change : IsChange lines (runs_of strips row) marks index to slots met) where
    -- up to a change the row below goes on, and at the ends of its slots each run ends
    pub changing_up_to :
        {top : ℕ} {new : List Piece} {next : List ℕ} (tree : Tree) (present : ℕ → Bool) → IsTree tree present → ShowsRow tree.segments.items present lines picture y
        → runs_of new row ≡ runs_of strips row → IsChanging picture y top column new row next passed passed
        → ShowsSlots tree lines picture present y slots × IsChanging picture y top (slice_index lines slots.first) new row (next ++ slice_range row passed met.first) met.first met.first
    changing_up_to tree present is shows same state =
        let list = runs_below picture y strips row kept in (
          record {
            is = is;
            shows = shows;
            left = IsEnd-first picture y lines cuts (runs_of strips row) list marks are_sorted have_sorted index passed column done sorted to slots met change;
            right = IsEnd-end picture y lines cuts (runs_of strips row) list marks are_sorted have_sorted index passed column done sorted to slots met change;
          },
          IsChanging-to_change picture y lines cuts (runs_of strips row) list marks are_sorted have_sorted index passed column done sorted to slots met change same state,
        )
