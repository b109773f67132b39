use Rattle.std.proofs.Common.{◌≡◌, ◌≤◌, vec_capacity}
use Rattle.mls_session.proofs.Common.{layout_in, most_uses, painted_over, planned_pieces}
use Rattle.mls_session.proofs.ChangedPlanes.{IsMade}
use Rattle.mls_session.proofs.design.Design.commit_change.Given as goal

-- the plans are as they were, and painted on the first planes, and there is room for uses
abbrev pub invariant-loop-i : goal.invariant-loop-i
invariant-loop-i l = record {
  same : record { box = l.self-inside.box_rect; planes = l.self-inside.planes.items; uses = l.self-inside.uses.items; quota = l.self-inside.quota; errors = l.self-inside.errors } ≡ l.fn.self;
  room : most_uses ≤ vec_capacity l.self-inside.uses;
  plans : l.workspace.scratch.plans ≡ l.fn.workspace.scratch.plans;
  made : IsMade l.fn.workspace.pool l.workspace.pool l.fn.self (painted_over (planned_pieces l.fn.workspace.scratch) (layout_in l.fn.workspace.pool l.fn.self.planes)) l.i;
}
