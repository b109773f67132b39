-- the pool is as it was
use Rattle.std.proofs.Common.{◌≡◌}
use Rattle.mls_layout.proofs.going_on.cell_goes_on_to.Given as goal

abbrev pub invariant-loop-plane : goal.invariant-loop-plane
invariant-loop-plane l = l.workspace.pool ≡ l.fn.workspace.pool
