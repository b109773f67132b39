-- Each turn paints one plane more, by its plan.
use Rattle.std.proofs.Common.{ℕ, List, length, ap, ◌∙◌, arith}
use Rattle.mls_session.proofs.Common.{Design, layout_in, painted_over, planned_pieces}
use Rattle.mls_session.proofs.ChangedPlanes.{layout_in-IsMade}
use Rattle.mls_session.proofs.HomePlanes.{planes_kept}
use Rattle.mls_session.proofs.PlannedPlanes.{IsMade-IsTurn, IsPlanFor-IsTurn, IsTurn-lent, room-IsTurn}
use Rattle.mls_session.proofs.design.Design.commit_change.Goals as goal

pub commit-requires-clause-plan : goal.commit-requires-clause-plan
commit-requires-clause-plan c =
    let so_far = c.loop-i.invariant in
    let turn = IsTurn-lent c.args.workspace.now.scratch c.loop-i.workspace.scratch so_far.made so_far.plans (ap (λ (kept : Design). kept.planes) so_far.same) c.index_mut-plane.ensures.value (omega (arith, ap (λ (kept : Design). length kept.planes) c.self.view_is)) in
    IsPlanFor-IsTurn turn c.requires.planned

pub commit-requires-clause-fits : goal.commit-requires-clause-fits
commit-requires-clause-fits c =
    let so_far = c.loop-i.invariant in
    let turn = IsTurn-lent c.args.workspace.now.scratch c.loop-i.workspace.scratch so_far.made so_far.plans (ap (λ (kept : Design). kept.planes) so_far.same) c.index_mut-plane.ensures.value (omega (arith, ap (λ (kept : Design). length kept.planes) c.self.view_is)) in
    room-IsTurn turn c.requires.fits

pub loop-i-preserved : goal.loop-i-preserved
loop-i-preserved c =
    let so_far = c.loop-i.invariant in
    let turn = IsTurn-lent c.args.workspace.now.scratch c.loop-i.workspace.scratch so_far.made so_far.plans (ap (λ (kept : Design). kept.planes) so_far.same) c.index_mut-plane.ensures.value (omega (arith, ap (λ (kept : Design). length kept.planes) c.self.view_is)) in
    let design = c.loop-i.self-inside in
    let kept = planes_kept design.planes.items c.loop-i.i c.index_mut-plane.result.now c.commit.new.plane c.index_mut-plane.ensures.value c.commit.ensures.plane in
    record {
      same = ap (λ (planes : List ℕ). record { box = design.box_rect; planes = planes; uses = design.uses.items; quota = design.quota; errors = design.errors }) kept ∙ so_far.same;
      room = so_far.room;
      plans = c.commit.ensures.plans ∙ so_far.plans;
      made = IsMade-IsTurn turn c.commit.ensures.only c.commit.ensures.strips c.commit.ensures.picture;
    }

pub returns-clause-layout : goal.returns-clause-layout
returns-clause-layout c = λ plane within.
    let old = c.args.workspace.now.pool in
    let design = c.args.self.now in
    let whole = ap (λ (kept : Design). length kept.planes) c.self.view_is in
    let wanted = painted_over (planned_pieces c.args.workspace.now.scratch) (layout_in old design.planes) in
    layout_in-IsMade old c.loop-i.workspace.pool design wanted c.loop-i.i plane c.loop-i.invariant.made (omega (arith, whole)) within
