use Rattle.mls_geom.proofs.Common.{◌-◌, ◌<◌, ◌≤◌, length, AllWithin}
use Rattle.mls_geom.proofs.stack.strip_below.Given as goal

abbrev pub invariant-loop-index : goal.invariant-loop-index
invariant-loop-index l = record {
  within : l.index ≤ length l.below;
  passed : AllWithin (λ under. under.left < l.run.left) l.below l.fn.index l.index;
}

abbrev pub decreases-loop-index : goal.decreases-loop-index
decreases-loop-index l = length l.below - l.index
