-- The cell's planes are frozen, and there is room for its use.
use Rattle.std.proofs.Common.{◌<◌, ◌++◌, ◌∷◌, [], Some, length, ap, ◌∙◌, arith}
use Rattle.std.proofs.lemmas.Int.{to_z-of_z}
use Rattle.mls_session.proofs.Common.{CellUse, checking_of, dirty_after, most_uses}
use Rattle.mls_session.specs.Designs.{Design, designed_of, owners_of}
use Rattle.mls_session.specs.declared.reply.Reply.TheVariants.{Done}
use Rattle.mls_session.proofs.CellPlaces.{get-Done, get-TooManyUses, get-refused}
use Rattle.mls_session.proofs.ErrorPlanes.{KeepsPlanes-same}
use Rattle.mls_session.proofs.PlacedBounds.{placed_bounds-fits}
use Rattle.mls_session.proofs.design.Design.get_cell.Goals as goal

pub returns-in-Err-clause-step : goal.returns-in-Err-clause-step
returns-in-Err-clause-step c =
    let outside = c.in-Err.ensures ∙ placed_bounds-fits c.bounds.result c.args.dx c.args.dy c.ranges.dx c.ranges.dy in
    rw c.in-Some.is
    (get-refused c.args.setup.now c.args.workspace.now.pool (owners_of c.args.self.now) c.requires.ready.can_dump c.in-Some.id c.in-Some-get.cell.now.planes c.in-Some-get.ensures.planes c.bounds.result (ap (λ bounds. Some bounds) c.bounds.ensures ∙ c.in-Some-get.ensures.bounds) c.args.dx c.args.dy (designed_of c.args.workspace.now.pool c.args.self.now) c.in-Err.refusal outside)

pub returns-then-len-ge-MOST_USES-clause-step : goal.returns-then-len-ge-MOST_USES-clause-step
returns-then-len-ge-MOST_USES-clause-step c =
    let placed = c.in-Ok.ensures ∙ placed_bounds-fits c.bounds.result c.args.dx c.args.dy c.ranges.dx c.ranges.dy in
    let used = ap (λ (d : Design). length d.uses) c.self.view_is in
    rw c.in-Some.is
    (get-TooManyUses c.args.setup.now c.args.workspace.now.pool (owners_of c.args.self.now) c.requires.ready.can_dump c.in-Some.id c.in-Some-get.cell.now.planes c.in-Some-get.ensures.planes c.bounds.result (ap (λ bounds. Some bounds) c.bounds.ensures ∙ c.in-Some-get.ensures.bounds) c.args.dx c.args.dy (designed_of c.args.workspace.now.pool c.args.self.now) c.in-Ok.rect placed (omega (arith, used)))

pub returns-clause-step : goal.returns-clause-step
returns-clause-step c =
    let pool = c.args.workspace.now.pool in
    let view = c.self.view_is in
    let kept = c.mark_dirty.ensures.same in
    let along = c.ranges.dx in
    let up = c.ranges.dy in
    let pushed = simp to_z-of_z at c.push_reserved.ensures.items in
    let placed : CellUse = record { cell = c.in-Some.id; dx = c.args.dx; dy = c.args.dy } in
    let few : length c.args.self.now.uses < most_uses = omega (arith, ap (λ (d : Design). length d.uses) view) in
    let uses = ap (λ (d : Design). d.uses) kept ∙ pushed ∙ ap (λ (d : Design). d.uses ++ placed ∷ []) view in
    let dirtied = c.mark_dirty.ensures.checking pool ∙ ap (λ (d : Design). dirty_after c.args.setup.now.rules c.in-Ok.rect Done (checking_of pool d.errors)) view in
    rw c.in-Some.is
    (get-Done c.args.setup.now c.args.workspace.now.pool (owners_of c.args.self.now) c.requires.ready.can_dump c.in-Some.id c.in-Some-get.cell.now.planes c.in-Some-get.ensures.planes c.bounds.result (ap (λ bounds. Some bounds) c.bounds.ensures ∙ c.in-Some-get.ensures.bounds) c.args.dx c.args.dy c.args.self.now c.mark_dirty.new.self
    c.in-Ok.rect (c.in-Ok.ensures ∙ placed_bounds-fits c.bounds.result c.args.dx c.args.dy c.ranges.dx c.ranges.dy) few
    (ap (λ (d : Design). d.box) kept ∙ ap (λ (d : Design). d.box) view) (ap (λ (d : Design). d.planes) kept ∙ ap (λ (d : Design). d.planes) view) uses dirtied)

pub returns-clause-keeps : goal.returns-clause-keeps
returns-clause-keeps c =
    let view = c.self.view_is in
    let kept = c.mark_dirty.ensures.same in
    KeepsPlanes-same c.args.workspace.now.pool c.args.self.now c.mark_dirty.new.self c.requires.ready.home (ap (λ (d : Design). d.planes) kept ∙ ap (λ (d : Design). d.planes) view)
    (ap (λ (d : Design). d.quota) kept ∙ ap (λ (d : Design). d.quota) view) (c.mark_dirty.ensures.owner ∙ ap (λ (d : Design). d.errors.owner) view) (c.mark_dirty.ensures.marked ∙ ap (λ (d : Design). d.errors.marked) view)
