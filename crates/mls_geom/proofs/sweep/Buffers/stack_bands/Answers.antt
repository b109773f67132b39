-- A band lies between neighbouring lines, so its rows are alike.
use Rattle.mls_geom.proofs.Common.{◌≡◌, ◌+◌, ◌-◌, ◌≤◌, length, get_or, arith, get_or_read, with_items_is, err_from_is_err_and}
use Rattle.mls_geom.proofs.Definitions.{laid, AreRuns, AreStacked, world}
use Rattle.mls_geom.proofs.Activation.{ArePartedAt-starts, ArePartedAt-up}
use Rattle.mls_geom.proofs.BandLines.{IsBand-lines, IsLineOf-lines, first_line, last_line}
use Rattle.mls_geom.proofs.BandRows.{AreAlike-band, IsBand}
use Rattle.mls_geom.proofs.CornerCounts.{nothing_stacked, covered_count_up_to_grows}
use Rattle.mls_geom.proofs.SweepRoomLemmas.{HasRowRoom-less}
use Rattle.mls_geom.proofs.sweep.Buffers.stack_bands.Goals as goal
use Rattle.mls_geom.proofs.sweep.Buffers.stack_bands.Goals.{After-deref_mut}

pub loop-i-init : goal.loop-i-init
loop-i-init c =
    let pieces = c.args.pieces.now in
    let first = first_line world pieces c.args.self.now.lines.items c.requires.lines in
    record {
      parted =
          rw (first, c.clear.ensures.items, c.as_slice-waiting.ensures.value)
          (ArePartedAt-starts world.bottom pieces c.args.self.now.starts.items c.requires.starts (λ k d within. (c.requires.legal k d within).bottom_in));
      fit = omega (arith, c.requires.starts.len, c.requires.room.active);
      stacked = rw (first, c.clear-2.ensures.items, c.clear-3.ensures.items) (nothing_stacked world (laid pieces));
      within = omega arith;
      active_room = cc;
      strips_room = cc;
      runs_room = λ n room. (room.row, omega (arith, room.below));
    }

pub find_runs-requires-clause-room : goal.find_runs-requires-clause-room
find_runs-requires-clause-room c = HasRowRoom-less c.loop-i.row _ _ (omega arith) (c.loop-i.invariant.runs_room _ c.requires.room).0

-- the lines of this band
bottom_is : (c : After-deref_mut) → c.index-bottom.result.now ≡ get_or c.args.self.now.lines.items (c.loop-i.i - 1) 0
bottom_is c = get_or_read c.args.self.now.lines.items (c.loop-i.i - 1) _ (omega arith) c.index-bottom.ensures 0

top_is : (c : After-deref_mut) → c.index-top.result.now ≡ get_or c.args.self.now.lines.items c.loop-i.i 0
top_is c = get_or_read c.args.self.now.lines.items c.loop-i.i _ (omega arith) c.index-top.ensures 0

top_within : (c : After-deref_mut) → c.index-top.result.now ≤ world.top
top_within c = rw (top_is c) (IsLineOf-lines world c.args.pieces.now c.args.self.now.lines.items c.requires.lines c.loop-i.i (omega arith)).1

band : (c : After-deref_mut) → IsBand c.args.pieces.now c.index-bottom.result.now c.index-top.result.now
band c = IsBand-lines world c.args.pieces.now c.args.self.now.lines.items c.requires.lines c.loop-i.i _ _ (omega arith) (omega arith) (bottom_is c) (top_is c)

-- what it is stacked on, and its runs
below : (c : After-deref_mut) → AreStacked world (laid c.args.pieces.now) c.index-bottom.result.now c.loop-i.strips.items c.deref-in-loop-i.result.now
below c = rw (bottom_is c, c.deref-in-loop-i.ensures.value) c.loop-i.invariant.stacked

runs : (c : After-deref_mut) → AreRuns world (laid c.args.pieces.now) c.index-bottom.result.now c.deref_mut.result.now
runs c = rw c.deref_mut.ensures.value c.find_runs.ensures.runs

pub stack-requires-clause-drawn : goal.stack-requires-clause-drawn
stack-requires-clause-drawn c =
    let d = (goal.at.stack-requires-clause-drawn c).After-deref_mut in
    (laid c.args.pieces.now, below d, runs d, AreAlike-band world c.args.pieces.now _ _ (band d))

pub returns-in_err-stack-clause-too_many : goal.returns-in_err-stack-clause-too_many
returns-in_err-stack-clause-too_many c =
    let d = (goal.at.returns-in_err-stack-clause-too_many c).After-deref_mut in
    let pieces = c.args.pieces.now in
    let more = c.in_err-stack.ensures.too_many (laid pieces) (below d) (runs d) (AreAlike-band world pieces _ _ (band d)) in
    rw (err_from_is_err_and c.from_residual.result c.from_residual.ensures.1).1
    (omega (arith, more, covered_count_up_to_grows world (laid pieces) _ world.top (top_within d)))

pub returns-in_err-stack-clause-room : goal.returns-in_err-stack-clause-room
returns-in_err-stack-clause-room c = λ n room.
    let row = c.find_runs.ensures.room n (c.loop-i.invariant.runs_room n room).0 in
    record {
      lines = room.lines;
      starts = room.starts;
      active = omega (arith, room.active);
      row = record { lines = row.lines; kinds = row.kinds; runs = row.runs };
      below = (c.loop-i.invariant.runs_room n room).1;
      strips = omega (arith, room.strips);
    }

pub loop-i-preserved : goal.loop-i-preserved
loop-i-preserved c =
    let d = (goal.at.loop-i-preserved c).After-deref_mut in
    let pieces = c.args.pieces.now in
    let stacked = c.in_ok-stack.ensures.stacked (laid pieces) (below d) (runs d) (AreAlike-band world pieces _ _ (band d)) in
    let next : c.loop-i.i + 1 - 1 ≡ c.loop-i.i = omega arith in
    record {
      parted =
          rw (next, ← top_is d)
          (ArePartedAt-up _ _ pieces _ _ c.activate-waiting.ensures.parted (band d).tall (λ k e within. ((band d).outside k e within).begin));
      fit = omega arith;
      stacked = rw (next, ← top_is d, c.swap.ensures.x_after, with_items_is c.find_runs.new.self.runs c.stack.new.row (omega arith)) stacked;
      within = c.in_ok-stack.ensures.within;
      active_room = omega arith;
      strips_room = omega arith;
      runs_room = λ n room.
          let old = c.loop-i.invariant.runs_room n room in
          let row = c.find_runs.ensures.room n old.0 in
          (record { lines = row.lines; kinds = row.kinds; runs = rw c.swap.ensures.y_after old.1 }, rw c.swap.ensures.x_after row.runs);
    }

pub returns-clause-stacked : goal.returns-clause-stacked
returns-clause-stacked c =
    let lines = c.args.self.now.lines.items in
    let is_last : length lines - 1 ≡ c.loop-i.i - 1 = omega arith in
    rw (← is_last, last_line world c.args.pieces.now lines c.requires.lines) at c.loop-i.invariant.stacked

pub returns-clause-room : goal.returns-clause-room
returns-clause-room c = λ n room. record {
  lines = room.lines;
  starts = room.starts;
  active = omega (arith, room.active);
  row = (c.loop-i.invariant.runs_room n room).0;
  below = (c.loop-i.invariant.runs_room n room).1;
  strips = omega (arith, room.strips);
}
