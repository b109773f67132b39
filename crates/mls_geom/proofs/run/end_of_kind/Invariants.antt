-- The slots that the loop has passed have the first one's kind.
use Rattle.std.proofs.Common.{◌≡◌, ℕ, ◌-◌, ◌<◌, ◌≤◌, length}
use Rattle.mls_geom.specs.Sweep.Slots.{shown}
use Rattle.mls_geom.proofs.run.end_of_kind.Given as goal

abbrev pub invariant-loop-end : goal.invariant-loop-end
invariant-loop-end l = record {
  wide : l.first < l.end;
  within : l.end ≤ length l.kinds;
  alike : (slot : ℕ) → l.first ≤ slot → slot < l.end → shown l.kinds slot ≡ shown l.kinds l.first;
}

abbrev pub decreases-loop-end : goal.decreases-loop-end
decreases-loop-end l = length l.kinds - l.end
