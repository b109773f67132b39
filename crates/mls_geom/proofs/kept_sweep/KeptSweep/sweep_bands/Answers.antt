-- At the bottom line of a band pieces begin and end, and the row changes where their marks are. Up to its top line nothing else happens.
use Rattle.mls_geom.proofs.Common.{◌≡◌, ◌+◌, ◌-◌, ◌≤◌, Err, Vec, Global, length, get_or, refl, sym, ap, ◌∙◌, subst, arith, get_or_read, err_from_is_err_and}
use Rattle.mls_geom.proofs.Definitions.{laid, ArePlanted, Awaits, HaveChangedTops, bottom_of, is_above, is_below, is_met, top_of, AreMarks, AwaitsChange, HaveChanges, IsKept, ShowsRow, IsTree, world, Begins, Ends, Segment, TooMany}
use Rattle.mls_geom.specs.Sweep.Changing as rows
use Rattle.mls_geom.proofs.BandLines.{IsBand-lines, IsLineOf-lines, first_line, last_line}
use Rattle.mls_geom.proofs.BandRows.{AreAlike-band, IsBand}
use Rattle.mls_geom.proofs.CornerCounts.{covered_count_up_to_grows}
use Rattle.mls_geom.proofs.EventSteps.{AreEvents-band, is_below-band, is_below-bottom}
use Rattle.mls_geom.proofs.KeptBands.{awaits}
use Rattle.mls_geom.proofs.PlantedPieces.{HaveChanges-planted, ShowsRow-planted}
use Rattle.mls_geom.proofs.TopPieces.{HaveChangedTops-then}
use Rattle.mls_geom.proofs.kept_sweep.KeptSweep.sweep_bands.Goals as goal
use Rattle.mls_geom.proofs.kept_sweep.KeptSweep.sweep_bands.Goals.{In_ok-to_end}

pub loop-i-init : goal.loop-i-init
loop-i-init c =
    let pieces = c.args.pieces.now in
    let first = first_line world pieces c.args.self.now.lines.items c.requires.lines in
    record {
      tree = rw (first, is_below-bottom pieces world.bottom (λ k d within. (c.requires.legal k d within).bottom_in)) c.requires.tree;
      begin = rw (first, c.as_slice-to_begin.ensures.value) c.requires.starts;
      end = rw (first, c.as_slice-to_end.ensures.value) c.requires.ends;
      segments = cc;
      width = cc;
      lines = cc;
      marks = c.requires.marks;
      kept = rw first c.requires.kept;
      within = omega (arith, ap length c.requires.strips);
    }

pub move_pieces-requires-in-loop-i : goal.move_pieces-requires-in-loop-i
move_pieces-requires-in-loop-i c =
    let pieces = c.args.pieces.now in
    let lines = c.args.self.now.row.lines.items in
    let is = get_or_read c.args.self.now.lines.items (c.loop-i.i - 1) _ (omega arith) c.index-line.ensures 0 in
    let so_far = c.loop-i.invariant in
    let starts = awaits Begins lines pieces _ _ c.loop-i.to_begin.now c.loop-i.tree c.args.self.now.tree.segments is c.requires.legal c.requires.planted so_far.segments so_far.begin (rw is so_far.tree) in
    record {
      tree = (
        lines,
        pieces,
        awaits Ends lines pieces _ _ c.loop-i.to_end.now c.move_pieces.new.tree c.args.self.now.tree.segments is c.requires.legal c.requires.planted (c.move_pieces.ensures.segments ∙ so_far.segments) so_far.end
            (c.in_ok-to_begin.ensures.tree lines pieces starts),
      );
    }

-- the lines of this band
line_is : (c : In_ok-to_end) → c.index-line.result.now ≡ get_or c.args.self.now.lines.items (c.loop-i.i - 1) 0
line_is c = get_or_read c.args.self.now.lines.items (c.loop-i.i - 1) _ (omega arith) c.index-line.ensures 0

band : (c : In_ok-to_end) → IsBand c.args.pieces.now c.index-line.result.now (get_or c.args.self.now.lines.items c.loop-i.i 0)
band c = IsBand-lines world c.args.pieces.now c.args.self.now.lines.items c.requires.lines c.loop-i.i _ _ (omega arith) (omega arith) (line_is c) refl

top_within : (c : In_ok-to_end) → get_or c.args.self.now.lines.items c.loop-i.i 0 ≤ world.top
top_within c = (IsLineOf-lines world c.args.pieces.now c.args.self.now.lines.items c.requires.lines c.loop-i.i (omega arith)).1

bottom_within : (c : In_ok-to_end) → world.bottom ≤ c.index-line.result.now
bottom_within c = rw (line_is c) (IsLineOf-lines world c.args.pieces.now c.args.self.now.lines.items c.requires.lines (c.loop-i.i - 1) (omega arith)).0

starts : (c : In_ok-to_end) → Awaits Begins c.args.self.now.row.lines.items c.args.pieces.now c.index-line.result.now c.loop-i.to_begin.now c.loop-i.tree
starts c =
    let so_far = c.loop-i.invariant in
    awaits Begins c.args.self.now.row.lines.items c.args.pieces.now _ _ c.loop-i.to_begin.now c.loop-i.tree c.args.self.now.tree.segments (line_is c) c.requires.legal c.requires.planted
    so_far.segments so_far.begin (rw (line_is c) so_far.tree)

-- the ends that wait once pieces have begun
ends : (c : In_ok-to_end) → Awaits Ends c.args.self.now.row.lines.items c.args.pieces.now c.index-line.result.now c.loop-i.to_end.now c.move_pieces.new.tree
ends c =
    let lines = c.args.self.now.row.lines.items in
    let pieces = c.args.pieces.now in
    awaits Ends lines pieces _ _ c.loop-i.to_end.now c.move_pieces.new.tree c.args.self.now.tree.segments (line_is c) c.requires.legal c.requires.planted
    (c.move_pieces.ensures.segments ∙ c.loop-i.invariant.segments) c.loop-i.invariant.end (c.in_ok-to_begin.ensures.tree lines pieces (starts c))

pub change-requires-clause-marks : goal.change-requires-clause-marks
change-requires-clause-marks c =
    let d = (goal.at.change-requires-clause-marks c).In_ok-to_end in
    let lines = c.args.self.now.row.lines.items in
    let pieces = c.args.pieces.now in
    let none : AreMarks lines c.loop-i.row.marks.items = rw c.loop-i.invariant.marks (λ k d within. absurd (omega arith)) in
    rw c.loop-i.invariant.lines (c.move_pieces-in-loop-i.ensures.marks lines pieces (ends d) (c.move_pieces.ensures.marks lines pieces (starts d) none))

-- the tree's segments are still the pieces
planted : (c : In_ok-to_end) → ArePlanted c.loop-i.row.lines.items c.args.pieces.now c.move_pieces-in-loop-i.new.tree.segments.items
planted c =
    let same = c.move_pieces-in-loop-i.ensures.segments ∙ c.move_pieces.ensures.segments ∙ c.loop-i.invariant.segments in
    rw (c.loop-i.invariant.lines, same) c.requires.planted

shows : (c : In_ok-to_end) → ShowsRow c.move_pieces-in-loop-i.new.tree.segments.items (is_above c.args.pieces.now c.index-line.result.now) c.loop-i.row.lines.items (laid c.args.pieces.now) c.index-line.result.now
shows c = ShowsRow-planted c.loop-i.row.lines.items c.args.pieces.now c.move_pieces-in-loop-i.new.tree.segments.items c.index-line.result.now (planted c)
    (rw c.loop-i.invariant.lines c.requires.cuts.ascending) c.requires.kinds

-- the row's strips, and the squares that change
kept : (c : In_ok-to_end) → IsKept (laid c.args.pieces.now) c.index-line.result.now c.loop-i.row.strips.items c.loop-i.row.row.items
kept c = rw (line_is c) c.loop-i.invariant.kept

changed : (c : In_ok-to_end) → HaveChangedTops c.move_pieces-in-loop-i.new.marks.items c.loop-i.tree.segments.items (is_below c.args.pieces.now c.index-line.result.now) (is_above c.args.pieces.now c.index-line.result.now)
changed c =
    let lines = c.args.self.now.row.lines.items in
    let pieces = c.args.pieces.now in
    let line = c.index-line.result.now in
    HaveChangedTops-then c.move_pieces.new.marks.items c.move_pieces-in-loop-i.new.marks.items c.loop-i.tree.segments.items (is_below pieces line) (is_met pieces line) (is_above pieces line)
    c.move_pieces-in-loop-i.ensures.more (c.in_ok-to_begin.ensures.tops lines pieces (starts c))
    (subst (λ (v : Vec Segment Global). HaveChangedTops c.move_pieces-in-loop-i.new.marks.items v.items (is_met pieces line) (is_above pieces line)) c.move_pieces.ensures.segments
    (c.in_ok-to_end.ensures.tops lines pieces (ends c)))

changes : (c : In_ok-to_end) → HaveChanges c.loop-i.row.lines.items c.move_pieces-in-loop-i.new.marks.items (laid c.args.pieces.now) c.index-line.result.now
changes c = rw c.loop-i.invariant.lines
    (HaveChanges-planted c.args.self.now.row.lines.items c.move_pieces-in-loop-i.new.marks.items c.args.pieces.now c.loop-i.tree.segments.items c.index-line.result.now (starts c).planted
    c.requires.cuts.ascending c.requires.legal (bottom_within c) (changed c))

-- what the tree then has
above : (c : In_ok-to_end) → IsTree c.move_pieces-in-loop-i.new.tree (is_above c.args.pieces.now c.index-line.result.now)
above c = c.in_ok-to_end.ensures.tree c.args.self.now.row.lines.items c.args.pieces.now (ends c)

-- the row that is kept, and the one that takes its place
awaits_change :
    (c : In_ok-to_end)
    → AwaitsChange c.move_pieces-in-loop-i.new.tree (record { lines = c.loop-i.row.lines; marks = c.move_pieces-in-loop-i.new.marks; row = c.loop-i.row.row; next = c.loop-i.row.next; strips = c.loop-i.row.strips })
    (laid c.args.pieces.now) (is_above c.args.pieces.now c.index-line.result.now) c.index-line.result.now
awaits_change c = record { is = above c; below = kept c; shows = shows c; changes = changes c }

row_band : (c : In_ok-to_end) → rows.IsBand world (laid c.args.pieces.now) c.index-line.result.now (get_or c.args.self.now.lines.items c.loop-i.i 0)
row_band c = record { from = bottom_within c; tall = (band c).tall; alike = AreAlike-band world c.args.pieces.now _ _ (band c) }

pub change-requires-clause-drawn : goal.change-requires-clause-drawn
change-requires-clause-drawn c =
    let d = (goal.at.change-requires-clause-drawn c).In_ok-to_end in
    (laid c.args.pieces.now, is_above c.args.pieces.now c.index-line.result.now, awaits_change d)

pub returns-in_err-change-clause-too_many : goal.returns-in_err-change-clause-too_many
returns-in_err-change-clause-too_many c = λ many.
    let d = (goal.at.returns-in_err-change-clause-too_many c).In_ok-to_end in
    let pieces = c.args.pieces.now in
    let (e, is, why) = err_from_is_err_and c.from_residual-in_err-change.result c.from_residual-in_err-change.ensures.1 in
    let same : c.change.result ≡ Err TooMany = c.in_err-change.was ∙ ap (λ e. Err e) (sym why) ∙ sym is ∙ many in
    let more = c.change.ensures.too_many same (laid pieces) _ _ (awaits_change d) (row_band d) (top_within d) in
    omega (arith, more, covered_count_up_to_grows world (laid pieces) _ world.top (top_within d))

pub loop-i-preserved : goal.loop-i-preserved
loop-i-preserved c =
    let d = (goal.at.loop-i-preserved c).In_ok-to_end in
    let lines = c.args.self.now.row.lines.items in
    let pieces = c.args.pieces.now in
    let next : c.loop-i.i + 1 - 1 ≡ c.loop-i.i = omega arith in
    record {
      tree = rw (next, is_below-band pieces _ _ (band d)) (above d);
      begin = rw next (AreEvents-band bottom_of _ _ pieces _ (band d).tall (λ k e within. ((band d).outside k e within).begin) (c.in_ok-to_begin.ensures.rest lines pieces (starts d)));
      end = rw next (AreEvents-band top_of _ _ pieces _ (band d).tall (λ k e within. ((band d).outside k e within).end) (c.in_ok-to_end.ensures.rest lines pieces (ends d)));
      segments = c.move_pieces-in-loop-i.ensures.segments ∙ c.move_pieces.ensures.segments ∙ c.loop-i.invariant.segments;
      width = c.move_pieces-in-loop-i.ensures.width ∙ c.move_pieces.ensures.width ∙ c.loop-i.invariant.width;
      lines = c.change.ensures.lines ∙ c.loop-i.invariant.lines;
      marks = c.in_ok-change.ensures.marks;
      kept = rw next (c.in_ok-change.ensures.kept (laid pieces) _ _ (awaits_change d) (row_band d) (top_within d));
      within = c.in_ok-change.ensures.within;
    }

pub returns-clause-kept : goal.returns-clause-kept
returns-clause-kept c =
    let lines = c.args.self.now.lines.items in
    let is_last : length lines - 1 ≡ c.loop-i.i - 1 = omega arith in
    rw (← is_last, last_line world c.args.pieces.now lines c.requires.lines) at c.loop-i.invariant.kept
