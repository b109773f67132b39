use Rattle.std.proofs.Common.{ℕ, ◌+◌, ◌<◌, slice_index}
use Rattle.mls_geom.proofs.lines.are_ascending.Given as goal

abbrev pub invariant-loop-i : goal.invariant-loop-i
invariant-loop-i l = (0 < l.i) × ((k : ℕ) → k + 1 < l.i → slice_index l.lines k < slice_index l.lines (k + 1))
