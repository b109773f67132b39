use Rattle.std.proofs.Common.{All, Option, slice_get, sym, ap, subst, ◌∙◌}
use Rattle.mls_geom.specs.Rects.{Rect}
use Rattle.mls_library.proofs.FoundCells.{IsFrozen-found}
use Rattle.mls_paint.specs.Planes.{picture_in}
use Rattle.mls_layout.specs.Inner.{bounds_hold, in_world}
use Rattle.mls_layout.specs.Likenesses.{ShowsAlike}
use Rattle.mls_layout.specs.Moves.{moved_picture}
use Rattle.mls_layout.specs.Uses.{cell_layouts, cell_shown, use_layout}
use Rattle.mls_layout.proofs.AlikePlanes.{one_kind-alike, zone-space}
use Rattle.mls_layout.proofs.AlikeUses.{ShowsAlike-use, in_world-outside}
use Rattle.mls_layout.proofs.UsedCells.{cell_there, no_cell, use_layout-None, use_layout-outside}
use Rattle.mls_layout.proofs.alike_uses.use_is_alike.Goals as goal

pub returns-in_default-clause-alike : goal.returns-in_default-clause-alike
returns-in_default-clause-alike c = λ _ plane.
    let pool = c.args.workspace.now.pool in
    let cells = c.args.uses.now.library.now in
    let cell_use = c.args.cell_use.now in
    one_kind-alike c.args.zone.now.likeness c.args.zone.now.halo 0 c.args.zone.now.rect (use_layout (cell_layouts pool cells) cell_use plane) c.lies_in_world.ensures
    (λ x y here. use_layout-None pool cells cell_use (no_cell (slice_get cells cell_use.cell) c.in_default.ensures.planes) plane x y)

pub returns-then-not-reaches-clause-alike : goal.returns-then-not-reaches-clause-alike
returns-then-not-reaches-clause-alike c = λ _ plane.
    let pool = c.args.workspace.now.pool in
    let cells = c.args.uses.now.library.now in
    let cell_use = c.args.cell_use.now in
    let got = c.in-Some.ensures in
    let (cell, is, planes, bounds) = cell_there (slice_get cells cell_use.cell) c.in-Some.cell.now.planes c.in-Some.cell.now.bounds got.planes got.bounds in
    zone-space c.args.zone.now.likeness c.args.zone.now.halo c.args.zone.now.rect c.grow.result (use_layout (cell_layouts pool cells) cell_use plane) c.lies_in_world.ensures c.grow.ensures.value
    (λ x y inside. use_layout-outside pool cells cell_use cell is c.requires.cells plane x y
    (ap (λ (b : Option Rect). bounds_hold b cell_use.dx cell_use.dy x y) bounds ∙ c.reaches.ensures c.if-not-reaches.true x y inside))
    (in_world-outside (moved_picture (cell_shown (cell_layouts pool cells) cell_use.cell plane) cell_use.dx cell_use.dy))

pub cell_is_alike-requires-clause-frozen : goal.cell_is_alike-requires-clause-frozen
cell_is_alike-requires-clause-frozen c =
    IsFrozen-found c.args.workspace.now.pool c.args.uses.now.library.now c.args.cell_use.now.cell c.in-Some.cell.now.planes c.requires.cells c.in-Some.ensures.planes

pub returns-clause-alike : goal.returns-clause-alike
returns-clause-alike c = λ yes plane.
    let pool = c.args.workspace.now.pool in
    let cells = c.args.uses.now.library.now in
    let cell_use = c.args.cell_use.now in
    let got = c.in-Some.ensures in
    let (cell, is, planes, bounds) = cell_there (slice_get cells cell_use.cell) c.in-Some.cell.now.planes c.in-Some.cell.now.bounds got.planes got.bounds in
    ShowsAlike-use c.args.zone.now.likeness c.args.zone.now.halo c.args.zone.now.rect pool cells cell_use cell c.lies_in_world.ensures is
    (subst (All (λ owner. ShowsAlike c.args.zone.now.likeness c.args.zone.now.halo c.args.zone.now.rect (in_world (moved_picture (picture_in pool owner) cell_use.dx cell_use.dy)))) (sym planes) (c.cell_is_alike.ensures.alike yes)) plane
