-- In the slots so far that aren't marked, pieces over it lie on top.
use Rattle.std.proofs.Common.{ℕ, ◌+◌, ◌-◌, ◌<◌, ◌≤◌, Bool, List, length}
use Rattle.mls_geom.proofs.Definitions.{AreMarks, IsMarked, IsTop, IsTree, span_of}
use Rattle.mls_geom.proofs.kept_sweep.mark.Given as goal

abbrev pub invariant-loop-first : goal.invariant-loop-first
invariant-loop-first l =
    let segments = l.tree.segments.items in
    record {
      from : (span_of segments l.piece).first ≤ l.first;
      hidden : (present : ℕ → Bool) (s rank : ℕ) → IsTree l.tree present → (span_of segments l.piece).first ≤ s → s < l.first
          → ¬ (IsMarked l.marks.items s) → IsTop segments present s rank → l.piece + 1 < rank;
      more : (s : ℕ) → IsMarked l.initial.marks.items s → IsMarked l.marks.items s;
      marks : (lines : List ℕ) → (span_of segments l.piece).end < length lines → AreMarks lines l.initial.marks.items → AreMarks lines l.marks.items;
    }

abbrev pub decreases-loop-first : goal.decreases-loop-first
decreases-loop-first l = l.span.end - l.first
