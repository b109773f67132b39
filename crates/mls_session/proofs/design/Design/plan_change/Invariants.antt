use Rattle.std.proofs.Common.{◌≡◌, false}
use Rattle.std.specs.List.{list_any, range_with_len}
use Rattle.mls_session.proofs.Common.{ArePlanned, ListsChange, changed_layout, layout_in, planned_pieces}
use Rattle.mls_session.proofs.ChangedQuotas.{exceeds}
use Rattle.mls_session.proofs.design.Design.plan_change.Given as goal

-- the change is planned for the first planes, none of which would have more tiles
abbrev pub invariant-loop-i : goal.invariant-loop-i
invariant-loop-i l = record {
  pool : l.workspace.pool ≡ l.fn.workspace.pool;
  few : list_any (exceeds l.fn.self.quota (changed_layout l.fn.workspace.pool l.change (layout_in l.fn.workspace.pool l.fn.self.planes))) (range_with_len 0 l.i) ≡ false;
  lists : ListsChange l.fn.workspace.pool l.change l.i (layout_in l.fn.workspace.pool l.fn.self.planes) (planned_pieces l.workspace.scratch);
  planned : ArePlanned l.fn.workspace.pool l.fn.self.planes l.i l.workspace.scratch;
}
