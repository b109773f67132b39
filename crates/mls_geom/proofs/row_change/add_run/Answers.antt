-- A run that has the ends and the kind of one below it goes on with its strip, and any other begins one, since no other run below has the run's left line.
use Rattle.mls_geom.proofs.Common.{◌≡◌, ◌≢◌, ◌<◌, ◌≤◌, get_or, length, refl, sym, ◌∙◌, arith, false≢true, get_or_default}
use Rattle.mls_geom.proofs.Definitions.{strip_of, world}
use Rattle.mls_geom.proofs.KeptRuns.{bottom_low, no_strip, runs_of-extended}
use Rattle.mls_geom.proofs.RowChanges.{IsChanging-new, IsChanging-on, IsChanging-too_many}
use Rattle.mls_geom.proofs.StagedStrips.{runs_of-push}
use Rattle.mls_geom.proofs.row_change.add_run.Goals as goal
use Rattle.mls_geom.proofs.row_change.add_run.Goals.{After-len-2, After-index_mut, else-under-below-via-then-under-below+else-has_strip, else-under-below-via-else-under-below}

-- the strip of the run below that doesn't begin left of the run
under_known : (c : After-index_mut) → get_or c.args.row.now c.first_at_or_after-under.result 0 < length c.args.strips.now.items
under_known c =
    let (picture, top, state, here) = c.requires.drawn in
    state.known c.first_at_or_after-under.result 0 (omega (arith, c.if-under-below.true, state.within))

under_is : (c : After-index_mut) → c.index_mut.result.now ≡ strip_of c.args.strips.now.items c.args.row.now c.first_at_or_after-under.result
under_is c = c.index_mut.ensures.value ∙ get_or_default c.args.strips.now.items (get_or c.args.row.now c.first_at_or_after-under.result 0) _ no_strip (under_known c)

-- no run below has the ends and the kind of one that begins a strip
stands_on_none : (c : After-len-2) → c.first_at_or_after-under.result < c.args.below.end
    → (c.args.run.now.left ≤ (strip_of c.args.strips.now.items c.args.row.now c.first_at_or_after-under.result).rect.left)
    × ((strip_of c.args.strips.now.items c.args.row.now c.first_at_or_after-under.result).rect.left ≡ c.args.run.now.left
    → (strip_of c.args.strips.now.items c.args.row.now c.first_at_or_after-under.result).rect.right ≡ c.args.run.now.right
    → (strip_of c.args.strips.now.items c.args.row.now c.first_at_or_after-under.result).kind ≢ c.args.run.now.kind)
stands_on_none c inside = (
  rw c.deref.ensures.value at (c.first_at_or_after-under.ensures.stopped inside),
  λ left right kind. elim c.else-under-below.branch [
    | else-under-below-via-then-under-below+else-has_strip w ↦ false≢true (sym w.if-has_strip.false ∙ (rw w.deref-then-under-below.ensures.value at w.has_strip.ensures).1 (left, right, kind))
    | else-under-below-via-else-under-below w ↦ omega (arith, w.if-under-below.false)
  ],
)

pub extend_to-requires-clause-above : goal.extend_to-requires-clause-above
extend_to-requires-clause-above c =
    let (picture, top, state, here) = c.requires.drawn in
    rw (under_is c) (omega (arith, bottom_low (get_or c.args.row.now c.first_at_or_after-under.result 0) (under_known c) state, state.band.tall, state.to))

pub returns-then-has_strip-clause-changing : goal.returns-then-has_strip-clause-changing
returns-then-has_strip-clause-changing c = λ picture top state here.
    let run = c.args.run.now in
    let found = c.first_at_or_after-under.ensures in
    let has = (rw c.deref-then-under-below.ensures.value at c.has_strip.ensures).0 c.if-has_strip.true in
    rw (c.push_reserved.ensures.items, c.extend_to.ensures, under_is (goal.at.returns-then-has_strip-clause-changing c).After-index_mut)
    (IsChanging-on run.left run.right run.kind c.first_at_or_after-under.result found.from c.if-under-below.true here refl has.0 has.1 has.2 (rw c.deref.ensures.value at found.passed) c.requires.right_out state)

pub returns-then-has_strip-clause-same_runs : goal.returns-then-has_strip-clause-same_runs
returns-then-has_strip-clause-same_runs c =
    let under = (goal.at.returns-then-has_strip-clause-same_runs c).After-index_mut in
    rw (c.extend_to.ensures, under_is under) (runs_of-extended c.args.strips.now.items c.args.row.now (get_or c.args.row.now c.first_at_or_after-under.result 0) world.top (under_known under))

pub returns-then-len-band-clause-too_many : goal.returns-then-len-band-clause-too_many
returns-then-len-band-clause-too_many c = λ _ picture top state here.
    let run = c.args.run.now in
    let found = c.first_at_or_after-under.ensures in
    let none = stands_on_none (goal.at.returns-then-len-band-clause-too_many c).After-len-2 in
    let more = IsChanging-too_many run.left run.right run.kind c.first_at_or_after-under.result found.from found.to here (λ same. omega (arith, c.requires.kind)) refl
    (rw c.deref.ensures.value at found.passed) none c.requires.right_out state in
    omega (arith, more, c.if-len-band.true, c.len-2.ensures, c.args.strips.now.ok.0)

pub returns-clause-changing : goal.returns-clause-changing
returns-clause-changing c = λ picture top state here.
    let run = c.args.run.now in
    let found = c.first_at_or_after-under.ensures in
    let none = stands_on_none (goal.at.returns-clause-changing c).After-len-2 in
    let more = IsChanging-new run.left run.right run.kind c.first_at_or_after-under.result found.from found.to here (λ same. omega (arith, c.requires.kind)) refl
    (rw c.deref.ensures.value at found.passed) none c.requires.right_out state in
    let index : c.in-Ok.strip ≡ length c.args.strips.now.items = omega (arith, c.in-Ok.ensures.1, c.len-4.ensures, c.args.strips.now.ok.0) in
    rw (c.push_reserved-3.ensures.items, c.push_reserved-2.ensures.items, index, c.between.ensures) more

pub returns-clause-same_runs : goal.returns-clause-same_runs
returns-clause-same_runs c =
    let (picture, top, state, here) = c.requires.drawn in
    rw c.push_reserved-2.ensures.items (runs_of-push c.args.strips.now.items _ c.args.row.now state.known)
