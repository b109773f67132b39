use Rattle.std.proofs.Common.{◌≡◌}
use Rattle.mls_session.proofs.Common.{flat_layout, types_in}
use Rattle.mls_session.proofs.design.painting.types_in.Given as goal

-- the types on the first planes
abbrev pub invariant-loop-number : goal.invariant-loop-number
invariant-loop-number l = record {
  pool : l.workspace.pool ≡ l.fn.workspace.pool;
  found : l.found ≡ types_in l.number (flat_layout l.fn.workspace.pool l.uses l.fn.planes) l.rect;
}
