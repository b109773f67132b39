use Rattle.std.proofs.Common.{ap, ◌∙◌}
use Rattle.mls_geom.specs.Pictures.{picture_of}
use Rattle.mls_layout.proofs.ShownPieces.{picture_of-appended}
use Rattle.mls_layout.proofs.strips.flat_strips.Goals as goal

pub returns-clause-strips : goal.returns-clause-strips
returns-clause-strips c =
    let cover = rw c.world.ensures at c.in_ok-push_flat.ensures.appended in
    let shown = picture_of-appended c.args.workspace.now.pool c.args.plane.now c.args.uses.now c.args.number _ _ c.requires.flat.plane c.new-pieces.ensures.items cover in
    rw (ap picture_of c.deref.ensures.value ∙ shown) at c.find_strips.ensures.strips

pub returns-clause-within : goal.returns-clause-within
returns-clause-within c =
    let cover = rw c.world.ensures at c.in_ok-push_flat.ensures.appended in
    let shown = picture_of-appended c.args.workspace.now.pool c.args.plane.now c.args.uses.now c.args.number _ _ c.requires.flat.plane c.new-pieces.ensures.items cover in
    rw (ap picture_of c.deref.ensures.value ∙ shown) at c.find_strips.ensures.within

pub returns-clause-too_many : goal.returns-clause-too_many
returns-clause-too_many c =
    let cover = rw c.world.ensures at c.in_ok-push_flat.ensures.appended in
    let shown = picture_of-appended c.args.workspace.now.pool c.args.plane.now c.args.uses.now c.args.number _ _ c.requires.flat.plane c.new-pieces.ensures.items cover in
    rw (ap picture_of c.deref.ensures.value ∙ shown) at c.find_strips.ensures.too_many
