use Rattle.std.proofs.Common.{◌≡◌, ◌+◌, ◌*◌, ◌^◌, ◌≤◌, IfSome}
use Rattle.mls_errorplane.proofs.Common.{AreRightIn, ChangesOnly, IsDirtyList, ShowsMarks, Steps, area_of, checking_of, flat_layout}
use Rattle.mls_errorplane.proofs.error_plane.ErrorPlane.catch_up.Given as goal

-- all steps so far were done, in the layout as it was, and their number and the squares that still await checking aren't too many to count; the marks of the
-- pieces that were checked last are right
abbrev pub invariant-steps : goal.invariant-steps
invariant-steps l = record {
  after : Steps l.fn.context.rules.now (flat_layout l.fn.workspace.pool l.fn.context.uses l.fn.planes) l.limit l.done (checking_of l.fn.workspace.pool l.fn.self) (checking_of l.workspace.pool l.self);
  few : IsDirtyList l.self.dirty → l.done + area_of l.self.dirty ≤ 65 * 2 ^ 42;
  right : IfSome l.checked (AreRightIn l.fn.context.rules.now (flat_layout l.fn.workspace.pool l.fn.context.uses l.fn.planes) (checking_of l.workspace.pool l.self).marks);
  marks : ShowsMarks l.workspace.pool l.self;
  only : ChangesOnly l.fn.workspace.pool l.workspace.pool l.fn.self.owner;
  owner : l.self.owner ≡ l.fn.self.owner;
}

-- how many squares the areas have
abbrev pub decreases-steps : goal.decreases-steps
decreases-steps l = area_of l.self.dirty
