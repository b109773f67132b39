-- The slots so far show what the first one shows.
use Rattle.std.proofs.Common.{◌≡◌, ℕ, ◌-◌, ◌<◌, ◌≤◌, Bool}
use Rattle.mls_geom.specs.Sweep.Trees.{IsTop, IsTree, kind_shown}
use Rattle.mls_geom.proofs.row_change.stretch.Given as goal

abbrev pub invariant-loop-end : goal.invariant-loop-end
invariant-loop-end l = record {
  wide : l.slots.first < l.end;
  shows : (present : ℕ → Bool) (s : ℕ) → IsTree l.tree present → l.slots.first ≤ s → s < l.end
      → (rank : ℕ) × IsTop l.tree.segments.items present s rank × (l.from.kind ≡ kind_shown l.tree.segments.items rank);
}

abbrev pub decreases-loop-end : goal.decreases-loop-end
decreases-loop-end l = l.slots.end - l.end
