use Rattle.std.proofs.Common.{◌≡◌, ◌+◌, ◌*◌, ◌^◌, ◌≤◌, false}
use Rattle.mls_errorplane.proofs.Common.{AreRightIn, ChangesOnly, ShowsMarks, Steps, area_of, checking_of, exceeds, flat_layout}
use Rattle.mls_errorplane.proofs.error_plane.ErrorPlane.settle.Given as goal

-- the pieces so far are as many check steps, in the layout as it was, and the marks are right in the last of them
abbrev pub invariant-stretches : goal.invariant-stretches
invariant-stretches l = record {
  steps : Steps l.fn.context.rules.now (flat_layout l.fn.workspace.pool l.fn.context.uses l.fn.planes) l.limit l.steps (checking_of l.fn.workspace.pool l.fn.self) (checking_of l.workspace.pool l.self);
  right : AreRightIn l.fn.context.rules.now (flat_layout l.fn.workspace.pool l.fn.context.uses l.fn.planes) (checking_of l.workspace.pool l.self).marks l.checked;
  fewer : l.steps + area_of l.self.dirty ≤ area_of l.fn.self.dirty;
  fits : exceeds l.limit (checking_of l.workspace.pool l.self).marks ≡ false;
  marks : ShowsMarks l.workspace.pool l.self;
  only : ChangesOnly l.fn.workspace.pool l.workspace.pool l.fn.self.owner;
  owner : l.self.owner ≡ l.fn.self.owner;
}

-- how many squares await checking, and then how many pieces are tried
abbrev pub decreases-stretches : goal.decreases-stretches
decreases-stretches l = area_of l.self.dirty * 2 ^ 32 + l.most
