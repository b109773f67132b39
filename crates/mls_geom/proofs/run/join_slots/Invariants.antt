-- The runs so far are those left of the loop's slot, where the kind changes. There are no more of them than slots.
use Rattle.std.proofs.Common.{◌≡◌, ◌≢◌, ℕ, ◌-◌, ◌<◌, ◌≤◌, length, slice_index, vec_len, vec_capacity}
use Rattle.mls_geom.proofs.Definitions.{Rect, Picture, AreCuts, AreSlotKinds, AreRunsBefore}
use Rattle.mls_geom.specs.Sweep.Slots.{shown}
use Rattle.mls_geom.proofs.run.join_slots.Given as goal

abbrev pub invariant-loop-first : goal.invariant-loop-first
invariant-loop-first l = record {
  within : l.first ≤ length l.kinds;
  starts : 0 < l.first → l.first < length l.kinds → shown l.kinds l.first ≢ shown l.kinds (l.first - 1);
  runs : (extent : Rect) (picture : Picture) (y : ℕ) → AreCuts extent l.lines → AreSlotKinds picture y l.lines l.kinds
      → AreRunsBefore extent picture y (slice_index l.lines l.first) l.runs.items;
  fits : vec_len l.runs ≤ l.first;
  room : vec_capacity l.runs ≡ vec_capacity l.fn.runs;
}

abbrev pub decreases-loop-first : goal.decreases-loop-first
decreases-loop-first l = length l.kinds - l.first
