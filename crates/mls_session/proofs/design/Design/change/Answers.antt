-- No plane is changed unless each would fit.
use Rattle.std.proofs.Common.{◌≡◌, length, refl, sym, ap, ◌∙◌, arith}
use Rattle.mls_session.proofs.Common.{Design, FitsQuota, Pool, Quota, change_step, changed_layout, checking_of, config_of, designed_of, dirty_after, drawn_of, layout_in, planned_pieces}
use Rattle.mls_session.proofs.ChangedPlanes.{layout_in-changed}
use Rattle.mls_session.proofs.ChangedQuotas.{FitsQuota-tested, change_step-Refused}
use Rattle.mls_session.proofs.CommandSteps.{edit_step-Refused}
use Rattle.mls_session.proofs.EditedDesigns.{change-Done}
use Rattle.mls_session.proofs.ErrorPlanes.{KeepsPlanes-layout, KeepsPlanes-same}
use Rattle.mls_session.proofs.ListedPieces.{FitsQuota-listed}
use Rattle.mls_session.specs.declared.reply.Reply.TheVariants.{Done, Refused}
use Rattle.mls_session.proofs.design.Design.change.Goals as goal

pub returns-then-not-plan_change-clause-step : goal.returns-then-not-plan_change-clause-step
returns-then-not-plan_change-clause-step c =
    let pool = c.args.workspace.now.pool in
    let design = c.args.self.now in
    let config = config_of c.args.setup.now pool in
    let layout = changed_layout pool c.args.change.now (layout_in pool design.planes) in
    let tested = c.plan_change.ensures in
    edit_step-Refused config (designed_of pool design) c.args.rect (change_step config (drawn_of pool design) layout) Quota
    (change_step-Refused config (drawn_of pool design) layout c.plan_change.result (tested.fits config (sym c.requires.made_for.planes) (sym c.requires.made_for.quota))
    c.if-not-plan_change.true)
    ∙ ap (λ (now : Pool). (designed_of now design, Refused Quota)) (sym tested.pool)

pub returns-then-not-plan_change-clause-keeps : goal.returns-then-not-plan_change-clause-keeps
returns-then-not-plan_change-clause-keeps c =
    let design = c.args.self.now in
    rw c.plan_change.ensures.pool (KeepsPlanes-same c.args.workspace.now.pool design design c.requires.home refl refl refl refl)

pub commit_change-requires : goal.commit_change-requires
commit_change-requires c =
    let pool = c.args.workspace.now.pool in
    let design = c.args.self.now in
    let layout = layout_in pool design.planes in
    let tested = c.plan_change.ensures in
    let pieces = planned_pieces c.plan_change.new.workspace.scratch in
    let fits : FitsQuota (length design.planes) design.quota (changed_layout pool c.args.change.now layout) =
    FitsQuota-tested c.plan_change.result (changed_layout pool c.args.change.now layout) (length design.planes) design.quota tested.fits c.if-not-plan_change.false in
    rw tested.pool (record {
      home = c.requires.home;
      planned = tested.planned c.if-not-plan_change.false;
      few_planes = omega (arith, c.planes.ensures.value, c.planes.ensures.limit, c.requires.made_for.planes);
      fits = FitsQuota-listed pool c.args.change.now (length design.planes) design.quota layout pieces (tested.lists c.if-not-plan_change.false) fits;
    })

pub returns-clause-step : goal.returns-clause-step
returns-clause-step c =
    let pool = c.args.workspace.now.pool in
    let design = c.args.self.now in
    let config = config_of c.args.setup.now pool in
    let layout = changed_layout pool c.args.change.now (layout_in pool design.planes) in
    let tested = c.plan_change.ensures in
    let made = rw tested.pool at c.commit_change.ensures in
    let new = c.commit_change.new.workspace.pool in
    let pieces = planned_pieces c.plan_change.new.workspace.scratch in
    let painted = layout_in-changed pool new design c.args.change.now pieces c.requires.planes (tested.lists c.if-not-plan_change.false) made.layout in
    let same = c.mark_dirty.ensures.same in
    let mid : c.commit_change.new.self.errors ≡ design.errors = ap (λ (d : Design). d.errors) made.same in
    change-Done config pool new design c.mark_dirty.new.self c.args.rect c.requires.home made.only
    (c.mark_dirty.ensures.checking new ∙ ap (λ (d : Design). dirty_after config.rules c.args.rect Done (checking_of new d.errors)) made.same) layout c.plan_change.result
    (tested.fits config (sym c.requires.made_for.planes) (sym c.requires.made_for.quota)) c.if-not-plan_change.false painted
    (ap (λ (d : Design). d.box) same ∙ ap (λ (d : Design). d.box) made.same) (ap (λ (d : Design). d.planes) same ∙ ap (λ (d : Design). d.planes) made.same)
    (ap (λ (d : Design). d.uses) same ∙ ap (λ (d : Design). d.uses) made.same)

pub returns-clause-keeps : goal.returns-clause-keeps
returns-clause-keeps c =
    let pool = c.args.workspace.now.pool in
    let design = c.args.self.now in
    let tested = c.plan_change.ensures in
    let made = rw tested.pool at c.commit_change.ensures in
    let same = c.mark_dirty.ensures.same in
    KeepsPlanes-layout pool c.commit_change.new.workspace.pool design c.mark_dirty.new.self c.requires.home made.home made.only
    (ap (λ (d : Design). d.planes) same ∙ ap (λ (d : Design). d.planes) made.same) (ap (λ (d : Design). d.quota) same ∙ ap (λ (d : Design). d.quota) made.same)
    (c.mark_dirty.ensures.owner ∙ ap (λ (d : Design). d.errors.owner) made.same) (c.mark_dirty.ensures.marked ∙ ap (λ (d : Design). d.errors.marked) made.same)
