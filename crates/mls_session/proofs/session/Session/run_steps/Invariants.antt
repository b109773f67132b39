use Rattle.mls_session.proofs.Common.{ChecksTimes, HasRightMarks, config_of, terms_of}
use Rattle.mls_session.specs.Sessions.{KeepsPlanes, kept_of, state_of}
use Rattle.mls_session.proofs.session.Session.run_steps.Given as goal

-- as many steps as there were turns were done
abbrev pub invariant-loop-done : goal.invariant-loop-done
invariant-loop-done l = record {
  times : ChecksTimes (terms_of l.fn.setup l.fn.workspace.pool) l.done (kept_of l.fn.workspace.pool l.fn.self) (kept_of l.workspace.pool l.self);
  right : HasRightMarks (config_of l.fn.setup l.fn.workspace.pool) (state_of l.fn.workspace.pool l.fn.self).design
      → HasRightMarks (config_of l.fn.setup l.fn.workspace.pool) (state_of l.workspace.pool l.self).design;
  keeps : KeepsPlanes l.fn.workspace.pool l.workspace.pool l.fn.self l.self;
}
