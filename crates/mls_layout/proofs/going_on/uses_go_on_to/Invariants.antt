-- the pool is as it was
use Rattle.std.proofs.Common.{◌≡◌}
use Rattle.mls_layout.proofs.going_on.uses_go_on_to.Given as goal

abbrev pub invariant-loop-cell_use : goal.invariant-loop-cell_use
invariant-loop-cell_use l = l.workspace.pool ≡ l.fn.workspace.pool
