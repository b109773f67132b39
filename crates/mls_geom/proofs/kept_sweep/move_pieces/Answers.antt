-- The events are in order, so the search parts them at the line. Each piece moves in its turn.
use Rattle.mls_geom.proofs.Common.{◌≡◌, ◌<◌, ℕ, leb, Vec, Global, List, length, get_or, ap, ◌∙◌, subst, arith, rules, get_or-take, IsPartitionPoint-from_clause, IsPartitionedBy-leb}
use Rattle.mls_geom.proofs.Definitions.{Awaits, HaveChangedTops, IsNext, line_of, present_after, present_before, AreMarks, IsTree, Event, Piece, Segment}
use Rattle.mls_geom.specs.Sweep.Events.{moved}
use Rattle.mls_geom.proofs.EventSteps.{AreEvents-rest, IsNonDecreasingBy-before, IsPartedAt, IsPartedAt-point, after_events, after_events-all, after_events-more, after_events-none, event_at, piece_known}
use Rattle.mls_geom.proofs.PlantedPieces.{IsNext-event, planted_end}
use Rattle.mls_geom.proofs.TopPieces.{HaveChangedTops-none, HaveChangedTops-then}
use Rattle.mls_geom.proofs.kept_sweep.move_pieces.Goals as goal
use Rattle.mls_geom.proofs.kept_sweep.move_pieces.Goals.{After-move_piece, After-split_at}

-- the search
parted : (c : After-split_at) → IsPartedAt c.args.line c.args.events.now c.partition_point-reached.result
parted c =
    let (lines, pieces, await) = c.requires.tree in
    let found = c.partition_point-reached.ensures in
    IsPartedAt-point c.args.line c.args.events.now _ found.bound
    (IsPartitionPoint-from_clause (λ (event : Event). leb event.line c.args.line) c.args.events.now _ found.partitioned
    (IsPartitionedBy-leb (λ (event : Event). event.line) c.args.events.now c.args.line (IsNonDecreasingBy-before c.args.events.now await.steps.ordered)) (λ event reached f called. search rules))

-- an event that it has reached
reached_at : (c : After-split_at) (k : _) → k < length c.split_at.result.0.now
    → (get_or c.split_at.result.0.now k (record { line = 0; piece = 0 }) ≡ event_at c.args.events.now k) × (k < c.partition_point-reached.result)
reached_at c k within = (rw c.split_at.ensures.front (get_or-take c.partition_point-reached.result c.args.events.now k (record { line = 0; piece = 0 }) (omega (arith, c.split_at.ensures.front_len))), omega (arith, c.split_at.ensures.front_len))

-- its piece is one of the tree
known : (c : After-split_at) (k : _) → k < length c.split_at.result.0.now
    → (get_or c.split_at.result.0.now k (record { line = 0; piece = 0 })).piece < length c.args.tree.now.segments.items
known c k within =
    let (lines, pieces, await) = c.requires.tree in
    let (is, before) = reached_at c k within in
    let p = parted c in
    rw (is, await.planted.count) (piece_known (line_of c.args.step) c.args.line pieces c.args.events.now _ await.steps p.within p.front p.back k (omega (arith, p.within)))

-- and the next to move
next : (c : After-split_at) (k : _) → k < length c.split_at.result.0.now → (segments : Vec Segment Global) → segments ≡ c.args.tree.now.segments
    → (lines : List ℕ) (pieces : List Piece) → Awaits c.args.step lines pieces c.args.line c.args.events.now c.args.tree.now
    → IsNext c.args.step segments.items (after_events c.args.step (present_before c.args.step pieces c.args.line) c.args.events.now k)
    (get_or c.split_at.result.0.now k (record { line = 0; piece = 0 })).piece
next c k within segments same lines pieces await =
    let (is, before) = reached_at c k within in
    rw (same, is) (IsNext-event c.args.step lines pieces c.args.tree.now.segments.items c.args.line c.args.events.now _ k await.planted await.steps (parted c) before)

pub loop-event-init : goal.loop-event-init
loop-event-init c =
    let present = λ (pieces : List Piece). present_before c.args.step pieces c.args.line in
    record {
      tree = λ lines pieces await. subst (IsTree c.args.tree.now) (after_events-none c.args.step (present pieces) c.args.events.now) await.present;
      tops = λ lines pieces await. subst (HaveChangedTops c.args.marks.now.items c.args.tree.now.segments.items (present pieces))
          (after_events-none c.args.step (present pieces) c.args.events.now) (HaveChangedTops-none c.args.marks.now.items c.args.tree.now.segments.items (present pieces));
      marks = λ lines pieces await are. are;
      more = λ s marked. marked;
      segments = cc;
      width = cc;
    }

pub move_piece-requires-clause-known : goal.move_piece-requires-clause-known
move_piece-requires-clause-known c =
    rw c.loop-event.invariant.segments (known (goal.at.move_piece-requires-clause-known c).After-split_at c.loop-event.event-index c.loop-event-test.true)

pub move_piece-requires-clause-tree : goal.move_piece-requires-clause-tree
move_piece-requires-clause-tree c =
    let (lines, pieces, await) = c.requires.tree in (
      _,
      c.loop-event.invariant.tree lines pieces await,
      next (goal.at.move_piece-requires-clause-tree c).After-split_at c.loop-event.event-index c.loop-event-test.true _ c.loop-event.invariant.segments lines pieces await,
    )

-- the marks, once the piece of an event has its own
marked : (c : After-move_piece) → (get_or c.split_at.result.0.now c.loop-event.event-index (record { line = 0; piece = 0 })).piece < length c.args.tree.now.segments.items
    → (lines : List ℕ) (pieces : List Piece) → Awaits c.args.step lines pieces c.args.line c.args.events.now c.args.tree.now
    → AreMarks lines c.args.marks.now.items → AreMarks lines c.move_piece.new.marks.items
marked c is_known lines pieces await are =
    let within = rw await.planted.count at is_known in
    c.move_piece.ensures.marks lines (rw c.loop-event.invariant.segments (planted_end lines pieces c.args.tree.now.segments.items await.planted _ within))
    (c.loop-event.invariant.marks lines pieces await are)

pub returns-in_err-move_piece-clause-marks : goal.returns-in_err-move_piece-clause-marks
returns-in_err-move_piece-clause-marks c =
    marked (goal.at.returns-in_err-move_piece-clause-marks c).After-move_piece (known (goal.at.returns-in_err-move_piece-clause-marks c).After-split_at c.loop-event.event-index c.loop-event-test.true)

pub loop-event-preserved : goal.loop-event-preserved
loop-event-preserved c =
    let d = (goal.at.loop-event-preserved c).After-split_at in
    let k = c.loop-event.event-index in
    let events = c.args.events.now in
    let (is, before) = reached_at d k c.loop-event-test.true in
    let so_far = c.loop-event.invariant in
    let after = λ (pieces : List Piece). after_events c.args.step (present_before c.args.step pieces c.args.line) events k in
    let more = λ (pieces : List Piece). ap (λ (event : Event). moved c.args.step (after pieces) event.piece) is ∙ after_events-more c.args.step (present_before c.args.step pieces c.args.line) events k in
    let waits = next d k c.loop-event-test.true c.loop-event.tree.segments so_far.segments in
    record {
      tree = λ lines pieces await.
          subst (IsTree c.move_piece.new.tree) (more pieces) (c.in_ok-move_piece.ensures.tree (after pieces) (so_far.tree lines pieces await) (waits lines pieces await));
      tops = λ lines pieces await.
          let changed = subst (HaveChangedTops c.move_piece.new.marks.items c.loop-event.tree.segments.items (after pieces)) (more pieces)
          (c.in_ok-move_piece.ensures.tops (after pieces) (so_far.tree lines pieces await) (waits lines pieces await)) in
          HaveChangedTops-then c.loop-event.marks.items c.move_piece.new.marks.items c.args.tree.now.segments.items (present_before c.args.step pieces c.args.line) (after pieces) _
          c.move_piece.ensures.more (so_far.tops lines pieces await) (rw so_far.segments at changed);
      marks = marked (goal.at.loop-event-preserved c).After-move_piece (known d k c.loop-event-test.true);
      more = λ s marked. c.move_piece.ensures.more s (so_far.more s marked);
      segments = c.move_piece.ensures.segments ∙ so_far.segments;
      width = c.move_piece.ensures.width ∙ so_far.width;
    }

-- the pieces that are present once all have moved
all_moved : (c : After-split_at) (k : ℕ) → k ≡ c.partition_point-reached.result → (lines : List ℕ) (pieces : List Piece) → Awaits c.args.step lines pieces c.args.line c.args.events.now c.args.tree.now
    → after_events c.args.step (present_before c.args.step pieces c.args.line) c.args.events.now k ≡ present_after c.args.step pieces c.args.line
all_moved c k all lines pieces await = rw all (after_events-all c.args.step pieces c.args.line c.args.events.now _ await.legal await.steps (parted c))

pub returns-clause-tree : goal.returns-clause-tree
returns-clause-tree c = λ lines pieces await.
    subst (IsTree c.loop-event.tree) (all_moved (goal.at.returns-clause-tree c).After-split_at c.loop-event.event-index (omega (arith, c.split_at.ensures.front_len)) lines pieces await)
    (c.loop-event.invariant.tree lines pieces await)

pub returns-clause-tops : goal.returns-clause-tops
returns-clause-tops c = λ lines pieces await.
    subst (HaveChangedTops c.loop-event.marks.items c.args.tree.now.segments.items (present_before c.args.step pieces c.args.line))
    (all_moved (goal.at.returns-clause-tops c).After-split_at c.loop-event.event-index (omega (arith, c.split_at.ensures.front_len)) lines pieces await)
    (c.loop-event.invariant.tops lines pieces await)

pub returns-clause-rest : goal.returns-clause-rest
returns-clause-rest c = λ lines pieces await.
    let p = parted (goal.at.returns-clause-rest c).After-split_at in
    rw c.split_at.ensures.back (AreEvents-rest (line_of c.args.step) c.args.line pieces c.args.events.now _ await.steps p.within p.front p.back)
