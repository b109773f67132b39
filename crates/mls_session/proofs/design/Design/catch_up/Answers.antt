use Rattle.std.proofs.Common.{sym, ap, subst, ◌∙◌}
use Rattle.mls_session.proofs.Common.{CatchUp, ChangesOnly, Counts, Design, DesignSteps, ErrorPlane, HasCaughtUp, checking_of, config_of, designed_of, drawn_of, layout_of}
use Rattle.mls_session.proofs.CommandSteps.{caught_up-errors}
use Rattle.mls_session.proofs.ErrorPlanes.{KeepsPlanes-errors}
use Rattle.mls_session.proofs.FlatDesigns.{flat_layout-design}
use Rattle.mls_session.proofs.LentDesigns.{HasLayout-lent, StandsApart-lent}
use Rattle.mls_session.proofs.design.Design.catch_up.Goals as goal

pub catch_up-ended-requires-clause-layout : goal.catch_up-ended-requires-clause-layout
catch_up-ended-requires-clause-layout c =
    HasLayout-lent c.args.setup.now c.args.workspace.now.pool c.self.inside c.args.self.now c.self.view_is c.requires.ready.home c.self.invariant.0 c.context-context.result.uses.library.now c.context-context.ensures.library c.deref-2.result.now c.deref-2.ensures.value c.requires.ready.can_dump c.requires.ready.made_for

pub catch_up-ended-requires-clause-apart : goal.catch_up-ended-requires-clause-apart
catch_up-ended-requires-clause-apart c =
    StandsApart-lent c.args.setup.now c.args.workspace.now.pool c.self.inside c.args.self.now c.self.view_is c.requires.ready.home c.self.invariant.0 c.context-context.result.uses.library.now c.context-context.ensures.library c.deref-2.result.now c.deref-2.ensures.value c.requires.ready.can_dump

abbrev after : goal.After-result_of → Design
after c = record {
  box = c.self.inside.box_rect;
  planes = c.self.inside.planes.items;
  uses = c.self.inside.uses.items;
  quota = c.self.inside.quota;
  errors = c.catch_up-ended.new.self;
}

-- only tiles of the error plane have changed
only : (c : goal.After-result_of) → ChangesOnly c.args.workspace.now.pool c.catch_up-ended.new.workspace.pool c.args.self.now.errors.owner
only c =
    subst (λ (e : ErrorPlane). ChangesOnly c.args.workspace.now.pool c.catch_up-ended.new.workspace.pool e.owner) (ap (λ (d : Design). d.errors) c.self.view_is) c.catch_up-ended.ensures.only

caught :
    (c : goal.After-result_of)
    → DesignSteps (config_of c.args.setup.now c.args.workspace.now.pool) (designed_of c.args.workspace.now.pool c.args.self.now) CatchUp c.result_of.result.reply (designed_of c.catch_up-ended.new.workspace.pool (after c))
    × Counts (config_of c.args.setup.now c.args.workspace.now.pool) (designed_of c.args.workspace.now.pool c.args.self.now) CatchUp c.result_of.result (designed_of c.catch_up-ended.new.workspace.pool (after c))
caught c =
    let pool = c.args.workspace.now.pool in
    let new = c.catch_up-ended.new.workspace.pool in
    let design = c.args.self.now in
    let config = config_of c.args.setup.now pool in
    let ended = c.catch_up-ended.result in
    let limit = c.get-limit.result in
    let now = checking_of new c.catch_up-ended.new.self in
    let lent = c.deref-2.ensures.value ∙ ap (λ (d : Design). d.planes) c.self.view_is in
    let list = c.context-context.ensures.list ∙ c.deref.ensures.value ∙ ap (λ (d : Design). d.uses) c.self.view_is in
    let shown = flat_layout-design c.args.setup.now pool design c.context-context.result.uses c.context-context.ensures.library list c.deref-2.result.now lent in
    let all = rw (c.context-context.ensures.rules, shown) at c.catch_up-ended.ensures.caught_up in
    let steps : HasCaughtUp config.rules (layout_of config (drawn_of pool design)) limit (checking_of pool design.errors) ended now =
    subst (λ (e : ErrorPlane). HasCaughtUp config.rules (layout_of config (drawn_of pool design)) limit (checking_of pool e) ended now) (ap (λ (d : Design). d.errors) c.self.view_is) all in
    caught_up-errors config pool new design (after c) limit ended c.areas-pending.result c.result_of.result (sym c.requires.ready.made_for.quota)
    (c.get-limit.ensures.value ∙ ap (λ (d : Design). d.quota) c.self.view_is) c.requires.ready.home c.requires.areas (only c) (ap (λ (d : Design). d.box) c.self.view_is) (ap (λ (d : Design). d.planes) c.self.view_is) (ap (λ (d : Design). d.uses) c.self.view_is) steps
    c.areas-pending.ensures.value c.result_of.ensures.reply c.result_of.ensures.steps

pub returns-clause-caught : goal.returns-clause-caught
returns-clause-caught c = (caught c).0

pub returns-clause-counts : goal.returns-clause-counts
returns-clause-counts c = (caught c).1

pub returns-clause-keeps : goal.returns-clause-keeps
returns-clause-keeps c =
    let pool = c.args.workspace.now.pool in
    let new = c.catch_up-ended.new.workspace.pool in
    let done = c.catch_up-ended.ensures in
    let errors = ap (λ (d : Design). d.errors.owner) c.self.view_is in
    let owner = done.owner ∙ errors in
    KeepsPlanes-errors pool new c.args.self.now (after c) c.requires.ready.home (only c) done.marks (ap (λ (d : Design). d.planes) c.self.view_is) (ap (λ (d : Design). d.quota) c.self.view_is) owner
