use Rattle.mls_geom.proofs.Common.{◌-◌, ◌<◌, ◌≤◌, AllWithin}
use Rattle.mls_geom.specs.Sweep.KeptRows.{strip_at}
use Rattle.mls_geom.proofs.row_change.first_at_or_after.Given as goal

abbrev pub invariant-loop-index : goal.invariant-loop-index
invariant-loop-index l = record {
  onward : l.runs.first ≤ l.index;
  within : l.index ≤ l.runs.end;
  passed : AllWithin (λ k. (strip_at l.strips k).rect.left < l.left) l.row l.runs.first l.index;
}

abbrev pub decreases-loop-index : goal.decreases-loop-index
decreases-loop-index l = l.runs.end - l.index
