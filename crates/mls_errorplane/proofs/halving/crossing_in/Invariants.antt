-- the pool hasn't changed
use Rattle.std.proofs.Common.{◌≡◌}
use Rattle.mls_errorplane.proofs.halving.crossing_in.Given as goal

abbrev pub invariant-loop-index : goal.invariant-loop-index
invariant-loop-index l = l.workspace.pool ≡ l.fn.workspace.pool
