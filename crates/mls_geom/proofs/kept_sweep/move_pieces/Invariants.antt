-- The pieces of the events so far have moved.
use Rattle.std.proofs.Common.{◌≡◌, ℕ, List}
use Rattle.mls_geom.proofs.Definitions.{Awaits, HaveChangedTops, present_before, AreMarks, IsMarked, IsTree, Piece}
use Rattle.mls_geom.proofs.EventSteps.{after_events}
use Rattle.mls_geom.proofs.kept_sweep.move_pieces.Given as goal

abbrev pub invariant-loop-event : goal.invariant-loop-event
invariant-loop-event l = record {
  tree : (lines : List ℕ) (pieces : List Piece) → Awaits l.step lines pieces l.fn.line l.events l.fn.tree
      → IsTree l.tree (after_events l.step (present_before l.step pieces l.fn.line) l.events l.event-index);
  tops : (lines : List ℕ) (pieces : List Piece) → Awaits l.step lines pieces l.fn.line l.events l.fn.tree
      → HaveChangedTops l.marks.items l.fn.tree.segments.items (present_before l.step pieces l.fn.line) (after_events l.step (present_before l.step pieces l.fn.line) l.events l.event-index);
  marks : (lines : List ℕ) (pieces : List Piece) → Awaits l.step lines pieces l.fn.line l.events l.fn.tree
      → AreMarks lines l.fn.marks.items → AreMarks lines l.marks.items;
  more : (s : ℕ) → IsMarked l.fn.marks.items s → IsMarked l.marks.items s;
  segments : l.tree.segments ≡ l.fn.tree.segments;
  width : l.tree.width ≡ l.fn.tree.width;
}
