-- The plane's tiles show the box, and all else is at home as before.
use Rattle.std.proofs.Common.{ℕ, ◌<◌, ◌∷◌, ◌++◌, List, [], Some, set, length, get_or, refl, ap, sym, ◌∙◌, arith}
use Rattle.std.proofs.lemmas.Bool.{false≢true}
use Rattle.mls_session.proofs.Common.{Design, Piece, Pool, Quota, checking_of, config_of, design_step, designed_of, dirty_after, drawn_of, overlaid, paint_step, picture_in, tile_count, world}
use Rattle.mls_paint.proofs.OwnerFrames.{ChangesAmong-ChangesOnly}
use Rattle.mls_session.specs.declared.reply.Reply.TheVariants.{Done, Refused}
use Rattle.mls_session.proofs.CommandSteps.{edit_step-Refused}
use Rattle.mls_session.proofs.EditedDesigns.{paint-Done}
use Rattle.mls_session.proofs.ErrorPlanes.{KeepsPlanes-layout}
use Rattle.mls_session.proofs.HomePlanes.{AreAtHome-ChangesOnly, planes_kept}
use Rattle.mls_session.proofs.Painting.{IsPainting, paint_step-Refused}
use Rattle.mls_session.proofs.design.Design.paint.Goals as goal
use Rattle.mls_session.proofs.design.Design.paint.Goals.{After-deref}

painting :
    (c : After-deref)
    → IsPainting (config_of c.args.setup.now c.args.workspace.now.pool) c.args.self.now c.args.kind c.in-Some.rect c.in-Some-kind.kind c.index.result c.index_mut-plane.result.now c.deref.result.now
painting c =
    let view = c.self.view_is in
    let plane = c.index.result in
    let owner = c.index_mut-plane.result.now in
    let piece : Piece = record { rect = c.in-Some.rect; kind = c.in-Some-kind.kind } in
    let one = c.deref.ensures.value ∙ c.push_reserved.ensures.items ∙ ap (λ pieces. pieces ++ piece ∷ []) c.clear.ensures.items in
    let within : plane < length c.args.self.now.planes = omega (arith, c.in-Some-plane_of.ensures.known, c.index.ensures.value, c.requires.made_for.planes) in
    record {
      is_set = sym (ap (λ (d : Design). d.box) view) ∙ c.in-Some.is;
      is_known = c.in-Some-kind.is;
      lies_on = sym c.in-Some-plane_of.ensures.value ∙ ap (λ p. Some p) (sym c.index.ensures.value);
      one = one;
      same_quota = sym c.requires.made_for.quota;
      within = within;
      is = c.index_mut-plane.ensures.value ∙ ap (λ (d : Design). get_or d.planes plane owner) view;
    }

pub returns-in_default-overlay-clause-step : goal.returns-in_default-overlay-clause-step
unfolding design_step
returns-in_default-overlay-clause-step c =
    let pool = c.args.workspace.now.pool in
    let design = c.args.self.now in
    let config = config_of c.args.setup.now pool in
    let view = c.self.view_is in
    let plane = c.index.result in
    let owner = c.index_mut-plane.result.now in
    let done = c.in_default-overlay.ensures in
    let back = planes_kept c.self.inside.planes.items plane owner c.overlay.new.plane c.index_mut-plane.ensures.value done.plane in
    let quota = ap (λ (d : Design). d.quota) view in
    let over : c.get-limit.result < tile_count world (overlaid (picture_in pool owner) c.deref.result.now) = done.too_many.0 refl in
    let many : design.quota < tile_count world (overlaid (picture_in pool owner) c.deref.result.now) = omega (arith, over, quota, c.get-limit.ensures.value) in
    edit_step-Refused config (designed_of pool design) design.box (paint_step config (drawn_of pool design) design.box c.args.kind) Quota
    (paint_step-Refused config pool design c.args.kind c.in-Some.rect c.in-Some-kind.kind plane owner c.deref.result.now (painting (goal.at.returns-in_default-overlay-clause-step c).After-deref) many)
    ∙ ap (λ (d : Design). (designed_of pool d, Refused Quota)) (sym view)
    ∙ ap (λ (owners : List ℕ). (designed_of pool (record { box = c.self.inside.box_rect; planes = owners; uses = c.self.inside.uses.items; quota = c.self.inside.quota; errors = c.self.inside.errors }), Refused Quota)) (sym back)
    ∙ ap (λ (now : Pool). (designed_of now (record { box = c.self.inside.box_rect; planes = set c.self.inside.planes.items plane c.overlay.new.plane; uses = c.self.inside.uses.items; quota = c.self.inside.quota; errors = c.self.inside.errors }), Refused Quota)) (sym done.refused)

pub returns-clause-step : goal.returns-clause-step
unfolding design_step
returns-clause-step c =
    let pool = c.args.workspace.now.pool in
    let new = c.overlay.new.pool in
    let design = c.args.self.now in
    let config = config_of c.args.setup.now pool in
    let view = c.self.view_is in
    let rect = c.in-Some.rect in
    let plane = c.index.result in
    let owner = c.index_mut-plane.result.now in
    let done = c.in-Ok.ensures in
    let planes = planes_kept c.self.inside.planes.items plane owner c.overlay.new.plane c.index_mut-plane.ensures.value done.plane ∙ ap (λ (d : Design). d.planes) view in
    let quota = ap (λ (d : Design). d.quota) view in
    let few = λ (over : design.quota < _). absurd (false≢true (done.too_many.1 (omega (arith, over, quota, c.get-limit.ensures.value)))) in
    let dirtied = c.add.ensures.added new ∙ ap (λ (d : Design). dirty_after config.rules (Some rect) Done (checking_of new d.errors)) view in
    let after : Design =
    record { box = c.self.inside.box_rect; planes = set c.self.inside.planes.items plane c.overlay.new.plane; uses = c.self.inside.uses.items; quota = c.self.inside.quota; errors = c.add.new.self } in
    paint-Done config pool new design after c.args.kind rect c.in-Some-kind.kind plane owner c.deref.result.now (painting (goal.at.returns-clause-step c).After-deref) c.requires.home done.only done.picture few (ap (λ (d : Design). d.box) view) planes (ap (λ (d : Design). d.uses) view) dirtied

pub returns-clause-keeps : goal.returns-clause-keeps
returns-clause-keeps c =
    let is = painting (goal.at.returns-clause-keeps c).After-deref in
    let pool = c.args.workspace.now.pool in
    let new = c.overlay.new.pool in
    let design = c.args.self.now in
    let view = c.self.view_is in
    let plane = c.index.result in
    let owner = c.index_mut-plane.result.now in
    let done = c.in-Ok.ensures in
    let planes = planes_kept c.self.inside.planes.items plane owner c.overlay.new.plane c.index_mut-plane.ensures.value done.plane ∙ ap (λ (d : Design). d.planes) view in
    let after : Design =
    record { box = c.self.inside.box_rect; planes = set c.self.inside.planes.items plane c.overlay.new.plane; uses = c.self.inside.uses.items; quota = c.self.inside.quota; errors = c.add.new.self } in
    KeepsPlanes-layout pool new design after c.requires.home (AreAtHome-ChangesOnly pool new design.quota design.planes owner done.only done.strips c.requires.home.layout)
    (ChangesAmong-ChangesOnly pool new design.planes owner (plane, is.within, sym is.is) done.only) planes (ap (λ (d : Design). d.quota) view)
    (c.add.ensures.owner ∙ ap (λ (d : Design). d.errors.owner) view) (c.add.ensures.marked ∙ ap (λ (d : Design). d.errors.marked) view)
