-- Before each change, and after the last one, the row below goes on.
use Rattle.mls_geom.proofs.Common.{◌≡◌, ℕ, ◌+◌, ◌-◌, ◌<◌, ◌≤◌, ◌++◌, Bool, Err, length, ap, refl, sym, ◌∙◌, arith, rules, slice_index, slice_range, AllWithin, IsNonDecreasingBy, nat_tests, take_all, All-permutation, IsNonDecreasingBy-from_sort_by_key, IsPermutation-refl}
use Rattle.mls_geom.proofs.Definitions.{Picture, AreInOrder, IsBand, IsChange, IsChanging, ShowsSlots, runs_of, AwaitsChange, strip_at, world, Span}
use Rattle.mls_geom.proofs.ChangedRows.{IsDone-more, IsDone-none, IsKept-rest, beyond_right, changing_up_to, met_left, passed_to, runs_below}
use Rattle.mls_geom.proofs.RowChanges.{IsChanging-start}
use Rattle.mls_geom.proofs.RowRuns.{AreInOrder-runs}
use Rattle.mls_geom.proofs.kept_row.KeptRow.change.Goals as goal
use Rattle.mls_geom.proofs.kept_row.KeptRow.change.Goals.{After-clear, After-keep_runs}

-- one row is a band
one_row : (picture : Picture) (y : ℕ) → world.bottom ≤ y → IsBand world picture y (y + 1)
one_row picture y from = record { from = from; tall = omega arith; alike = λ x z left right low high. (let same : z ≡ y = omega arith in ap (picture x) same) }

-- the marks that were sorted
marks_sorted : (c : After-clear) → IsNonDecreasingBy (λ (mark : Span). mark.first) c.sort_unstable_by_key.new.self.items
marks_sorted c = IsNonDecreasingBy-from_sort_by_key (λ (mark : Span). mark.first) c.sort_unstable_by_key.new.self.items c.sort_unstable_by_key.ensures.sorted (λ a r f k. search rules)

-- the runs of the row below
order : (c : After-clear) → AreInOrder (runs_of c.args.self.now.strips.items c.args.self.now.row.items)
order c =
    let self = c.args.self.now in
    let (picture, present, awaits) = c.requires.drawn in
    AreInOrder-runs (runs_of self.strips.items self.row.items) (runs_below picture c.args.line self.strips.items self.row.items awaits.below)

-- the change that was found
module _ (c : After-keep_runs) where
  change_found :
      IsChange c.args.self.now.lines.items (runs_of c.args.self.now.strips.items c.args.self.now.row.items) c.sort_unstable_by_key.new.self.items c.loop-index.index c.in-Some.after
      c.in-Some.change.slots c.in-Some.change.runs
  change_found = (let so_far = c.loop-index.invariant in rw (so_far.lines, so_far.row, so_far.marks, so_far.same_runs) at c.in-Some.ensures)

  -- where the runs lie that it meets or touches, and those right of them
  sides :
      AreInOrder (runs_of c.args.self.now.strips.items c.args.self.now.row.items)
      → AllWithin (λ k. (strip_at c.loop-index.self.strips.items k).rect.left < slice_index c.args.self.now.lines.items c.in-Some.change.slots.end) c.args.self.now.row.items
      c.in-Some.change.runs.first c.in-Some.change.runs.end
      × AllWithin (λ k. slice_index c.args.self.now.lines.items c.in-Some.change.slots.end ≤ (strip_at c.loop-index.self.strips.items k).rect.left) c.args.self.now.row.items
      c.in-Some.change.runs.end (length c.args.self.now.row.items)
  sides order =
      let self = c.args.self.now in
      let so_far = c.loop-index.invariant in
      let (column, done, changing) = so_far.changing in
      let runs = runs_of self.strips.items self.row.items in
      let marks = c.sort_unstable_by_key.new.self.items in
      let change = c.in-Some.change in (
        met_left self.lines.items c.requires.cuts runs order marks c.loop-index.index c.loop-index.passed column done c.in-Some.after change.slots change.runs change_found
            c.loop-index.self.strips.items self.row.items so_far.same_runs,
        beyond_right self.lines.items c.requires.cuts runs order marks c.loop-index.index c.loop-index.passed column done c.in-Some.after change.slots change.runs change_found
            c.loop-index.self.strips.items self.row.items so_far.same_runs,
      )

  -- up to the change the row below goes on
  goes_on_to_change :
      {picture : Picture} {present : ℕ → Bool} {top : ℕ} → IsNonDecreasingBy (λ (mark : Span). mark.first) c.sort_unstable_by_key.new.self.items → AwaitsChange c.args.tree.now c.args.self.now picture present c.args.line
      → IsBand world picture c.args.line top → top ≤ world.top
      → ShowsSlots c.args.tree.now c.args.self.now.lines.items picture present c.args.line c.in-Some.change.slots
      × IsChanging picture c.args.line top (slice_index c.args.self.now.lines.items c.in-Some.change.slots.first) c.loop-index.self.strips.items c.args.self.now.row.items
      (c.loop-index.self.next.items ++ slice_range c.args.self.now.row.items c.loop-index.passed c.in-Some.change.runs.first) c.in-Some.change.runs.first c.in-Some.change.runs.first
  goes_on_to_change {picture} {present} {top} sorted awaits band to =
      let self = c.args.self.now in
      let so_far = c.loop-index.invariant in
      let (column, done, changing) = so_far.changing in
      changing_up_to self.lines.items c.requires.cuts self.strips.items self.row.items self.marks.items c.sort_unstable_by_key.new.self.items c.sort_unstable_by_key.ensures.permutation
      c.requires.marks sorted c.loop-index.index c.loop-index.passed column done picture c.args.line awaits.below awaits.changes c.in-Some.after c.in-Some.change.slots c.in-Some.change.runs change_found
      c.args.tree.now present awaits.is awaits.shows so_far.same_runs (changing picture present top awaits band to)

pub loop-index-init : goal.loop-index-init
loop-index-init c =
    let self = c.args.self.now in
    record {
      index_in = omega arith;
      lines = refl;
      row = refl;
      marks = refl;
      same_runs = refl;
      within = c.requires.within;
      changing = (
        world.left,
        IsDone-none self.lines.items (runs_of self.strips.items self.row.items) c.sort_unstable_by_key.new.self.items,
        λ picture present top awaits band to. rw c.clear.ensures.items (IsChanging-start awaits.below c.requires.from band.tall to band.alike),
      );
    }

pub next_change-requires-clause-marks : goal.next_change-requires-clause-marks
next_change-requires-clause-marks c =
    let self = c.args.self.now in
    rw (c.loop-index.invariant.marks, c.loop-index.invariant.lines)
    (All-permutation (λ (mark : Span). (mark.first < mark.end) × (mark.end < length self.lines.items)) self.marks.items c.sort_unstable_by_key.new.self.items c.sort_unstable_by_key.ensures.permutation c.requires.marks)

pub next_change-requires-clause-sorted : goal.next_change-requires-clause-sorted
next_change-requires-clause-sorted c = rw c.loop-index.invariant.marks (marks_sorted (goal.at.next_change-requires-clause-sorted c).After-clear)

pub next_change-requires-clause-known : goal.next_change-requires-clause-known
next_change-requires-clause-known c =
    let (picture, present, awaits) = c.requires.drawn in
    let (column, done, changing) = c.loop-index.invariant.changing in
    let state = changing picture present (c.args.line + 1) awaits (one_row picture c.args.line c.requires.from) (omega (arith, c.requires.to)) in
    rw c.loop-index.invariant.row state.known

pub returns-then-is_empty-clause-kept : goal.returns-then-is_empty-clause-kept
returns-then-is_empty-clause-kept c = λ picture present top awaits band to.
    let self = c.args.self.now in
    let lines = self.lines.items in
    let strips = self.strips.items in
    let row = self.row.items in
    let marks = self.marks.items in
    let none : length marks ≤ 0 = (let test = sym c.is_empty.ensures ∙ c.if-is_empty.true in grind (arith, nat_tests)) in
    let rest = IsKept-rest lines c.requires.cuts strips row marks marks (IsPermutation-refl marks) c.requires.marks (λ i j d before within. absurd (omega arith)) 0 0 world.left
    (IsDone-none lines (runs_of strips row) marks) picture c.args.line awaits.below awaits.changes none refl (IsChanging-start awaits.below c.requires.from band.tall to band.alike) in
    let whole : slice_range row 0 (length row) ≡ row = take_all (length row - 0) row (omega arith) in
    rw whole at rest

pub keep_runs-requires-clause-onward : goal.keep_runs-requires-clause-onward
keep_runs-requires-clause-onward c =
    let self = c.args.self.now in
    let so_far = c.loop-index.invariant in
    let (column, done, changing) = so_far.changing in
    passed_to self.lines.items c.requires.cuts (runs_of self.strips.items self.row.items) (order (goal.at.keep_runs-requires-clause-onward c).After-clear) c.sort_unstable_by_key.new.self.items
    c.loop-index.index c.loop-index.passed column done c.in-Some.after c.in-Some.change.slots c.in-Some.change.runs (rw (so_far.lines, so_far.row, so_far.marks, so_far.same_runs) at c.in-Some.ensures)

pub change_slots-requires-clause-left : goal.change_slots-requires-clause-left
change_slots-requires-clause-left c =
    let here = goal.at.change_slots-requires-clause-left c in
    rw (c.deref-in-loop-index.ensures.value, c.deref-in-loop-index-2.ensures.value, c.loop-index.invariant.lines, c.loop-index.invariant.row)
    (sides here.After-keep_runs (order here.After-clear)).0

pub change_slots-requires-clause-right : goal.change_slots-requires-clause-right
change_slots-requires-clause-right c =
    let here = goal.at.change_slots-requires-clause-right c in
    rw (c.deref-in-loop-index.ensures.value, c.deref-in-loop-index-2.ensures.value, c.loop-index.invariant.lines, c.loop-index.invariant.row)
    (sides here.After-keep_runs (order here.After-clear)).1

pub change_slots-requires-clause-drawn : goal.change_slots-requires-clause-drawn
change_slots-requires-clause-drawn c =
    let (picture, present, awaits) = c.requires.drawn in
    let so_far = c.loop-index.invariant in
    let here = goal.at.change_slots-requires-clause-drawn c in
    let (shown, next) = goes_on_to_change here.After-keep_runs (marks_sorted here.After-clear) awaits (one_row picture c.args.line c.requires.from) (omega (arith, c.requires.to)) in
    rw (c.deref-in-loop-index.ensures.value, c.deref-in-loop-index-2.ensures.value, so_far.lines, so_far.row, c.in_ok-keep_runs.ensures.kept, c.deref.ensures.value, so_far.row)
    (picture, present, c.args.line + 1, shown, next)

pub returns-in_err-change_slots-clause-too_many : goal.returns-in_err-change_slots-clause-too_many
returns-in_err-change_slots-clause-too_many c = λ stopped picture present top awaits band to.
    let so_far = c.loop-index.invariant in
    let here = goal.at.returns-in_err-change_slots-clause-too_many c in
    let (shown, next) = goes_on_to_change here.After-keep_runs (marks_sorted here.After-clear) awaits band to in
    let told = rw (c.deref-in-loop-index.ensures.value, c.deref-in-loop-index-2.ensures.value, so_far.lines, so_far.row, c.in_ok-keep_runs.ensures.kept, c.deref.ensures.value, so_far.row) at c.in_err-change_slots.ensures.too_many in
    told (ap Err (sym (rw stopped at c.from_residual-in_err-change_slots.ensures.1))) picture present top shown next

pub loop-index-preserved : goal.loop-index-preserved
loop-index-preserved c =
    let here = goal.at.loop-index-preserved c in
    let found = here.After-keep_runs in
    let self = c.args.self.now in
    let so_far = c.loop-index.invariant in
    let (column, done, changing) = so_far.changing in
    let change = change_found found in
    let changed = rw (c.deref-in-loop-index.ensures.value, c.deref-in-loop-index-2.ensures.value, so_far.lines, so_far.row, c.in_ok-keep_runs.ensures.kept, c.deref.ensures.value, so_far.row) at c.in_ok-change_slots.ensures.changing in
    record {
      index_in = rw so_far.marks change.all.to_within;
      lines = so_far.lines;
      row = so_far.row;
      marks = so_far.marks;
      same_runs = rw (c.deref-in-loop-index-2.ensures.value, so_far.row) at c.in_ok-change_slots.ensures.same_runs ∙ so_far.same_runs;
      within = c.in_ok-change_slots.ensures.within;
      changing = (
        slice_index self.lines.items c.in-Some.change.slots.end,
        IsDone-more self.lines.items c.requires.cuts (runs_of self.strips.items self.row.items) (order here.After-clear) c.sort_unstable_by_key.new.self.items c.loop-index.index c.loop-index.passed column done
            c.in-Some.after c.in-Some.change.slots c.in-Some.change.runs change,
        λ picture present top awaits band to.
            (let (shown, next) = goes_on_to_change found (marks_sorted here.After-clear) awaits band to in
            changed picture present top shown next),
      );
    }

pub returns-clause-kept : goal.returns-clause-kept
returns-clause-kept c = λ picture present top awaits band to.
    let self = c.args.self.now in
    let marks = c.sort_unstable_by_key.new.self.items in
    let so_far = c.loop-index.invariant in
    let (column, done, changing) = so_far.changing in
    let state = changing picture present top awaits band to in
    let last : length marks ≤ c.loop-index.index = omega (arith, ap length so_far.marks, c.loop-index-test.false, c.len.ensures, c.loop-index.self.marks.ok.0) in
    let rest = IsKept-rest self.lines.items c.requires.cuts self.strips.items self.row.items self.marks.items marks c.sort_unstable_by_key.ensures.permutation c.requires.marks
    (marks_sorted (goal.at.returns-clause-kept c).After-clear) c.loop-index.index c.loop-index.passed column done picture c.args.line awaits.below awaits.changes last so_far.same_runs state in
    rw (c.swap.ensures.x_after, c.in_ok-keep_runs-2.ensures.kept, c.deref-2.ensures.value, c.len-2.ensures, c.loop-index.self.row.ok.0, so_far.row) rest
