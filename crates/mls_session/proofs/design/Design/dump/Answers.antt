-- The cell's planes are frozen, and no more than the design's.
use Rattle.std.proofs.Common.{Some, All, ap, ◌∙◌, arith}
use Rattle.std.proofs.lemmas.Int.{to_z-of_z}
use Rattle.mls_library.specs.Libraries.{IsFrozen}
use Rattle.mls_session.specs.Designs.{designed_of, owners_of}
use Rattle.mls_session.proofs.CellPlaces.{as_many, dump-placed, dump-refused, stays}
use Rattle.mls_session.proofs.DumpedCells.{each_stays, planes_there}
use Rattle.mls_session.proofs.PlacedBounds.{placed_bounds-fits}
use Rattle.mls_session.proofs.design.Design.dump.Goals as goal

pub returns-in-Err-clause-step : goal.returns-in-Err-clause-step
returns-in-Err-clause-step c =
    let outside = c.in-Err.ensures ∙ placed_bounds-fits c.bounds.result c.args.dx c.args.dy c.ranges.dx c.ranges.dy in
    rw c.in-Some.is
    (dump-refused c.args.setup.now c.args.workspace.now.pool (owners_of c.args.self.now) c.requires.ready.can_dump c.in-Some.id c.planes-planes.result.now (ap (λ owners. Some owners) c.planes-planes.ensures ∙ c.in-Some-get.ensures.planes) c.bounds.result (ap (λ bounds. Some bounds) c.bounds.ensures ∙ c.in-Some-get.ensures.bounds) c.args.dx c.args.dy (designed_of c.args.workspace.now.pool c.args.self.now) c.in-Err.refusal outside)

pub change-requires-clause-can_change : goal.change-requires-clause-can_change
change-requires-clause-can_change c =
    let pool = c.args.workspace.now.pool in
    let planes = c.planes-planes.result.now in
    let there = ap (λ owners. Some owners) c.planes-planes.ensures ∙ c.in-Some-get.ensures.planes in (
      planes_there (All (IsFrozen pool)) c.args.setup.now.library c.in-Some.id planes (λ k d within. (c.requires.ready.can_dump.home.each k d within).frozen) there,
      each_stays pool planes _ _
          (stays c.args.setup.now c.args.workspace.now.pool (owners_of c.args.self.now) c.requires.ready.can_dump c.in-Some.id planes there c.bounds.result (ap (λ bounds. Some bounds) c.bounds.ensures ∙ c.in-Some-get.ensures.bounds) _ _ c.in-Ok.rect c.in-Ok.ensures),
    )

pub change-requires-clause-planes : goal.change-requires-clause-planes
change-requires-clause-planes c =
    omega (arith, as_many c.args.setup.now c.args.workspace.now.pool (owners_of c.args.self.now) c.requires.ready.can_dump c.in-Some.id c.planes-planes.result.now (ap (λ owners. Some owners) c.planes-planes.ensures ∙ c.in-Some-get.ensures.planes), c.requires.ready.made_for.planes)

pub returns-clause-step : goal.returns-clause-step
returns-clause-step c =
    let along = c.ranges.dx in
    let up = c.ranges.dy in
    let placed = c.in-Ok.ensures ∙ placed_bounds-fits c.bounds.result c.args.dx c.args.dy c.ranges.dx c.ranges.dy in
    let changed = simp to_z-of_z at c.change.ensures.step in
    rw c.in-Some.is
    (dump-placed c.args.setup.now c.args.workspace.now.pool (owners_of c.args.self.now) c.requires.ready.can_dump c.in-Some.id c.planes-planes.result.now (ap (λ owners. Some owners) c.planes-planes.ensures ∙ c.in-Some-get.ensures.planes) c.bounds.result (ap (λ bounds. Some bounds) c.bounds.ensures ∙ c.in-Some-get.ensures.bounds) c.args.dx c.args.dy (designed_of c.args.workspace.now.pool c.args.self.now) c.in-Ok.rect placed
    ∙ changed)
