use Rattle.std.proofs.Common.{Option, ap, ◌∙◌}
use Rattle.std.proofs.Common.{slice_get}
use Rattle.mls_geom.specs.Rects.{Rect}
use Rattle.mls_layout.specs.Inner.{bounds_hold}
use Rattle.mls_layout.proofs.UsedCells.{cell_there, no_cell, use_layout-None, use_layout-outside}
use Rattle.mls_layout.proofs.uses.meets.Goals as goal

pub returns-in-Some : goal.returns-in-Some
returns-in-Some c = λ apart pool home plane x y inside.
    let cells = c.args.library.now in
    let cell_use = c.args.cell_use.now in
    let got = c.in-Some.ensures in
    let (cell, is, planes, bounds) = cell_there (slice_get cells cell_use.cell) c.in-Some.cell.now.planes c.in-Some.cell.now.bounds got.planes got.bounds in
    use_layout-outside pool cells cell_use cell is home plane x y
    (ap (λ (b : Option Rect). bounds_hold b cell_use.dx cell_use.dy x y) bounds ∙ c.reaches.ensures apart x y inside)

pub returns-in-None : goal.returns-in-None
returns-in-None c = λ apart pool home plane x y inside.
    let cells = c.args.library.now in
    let cell_use = c.args.cell_use.now in
    use_layout-None pool cells cell_use (no_cell (slice_get cells cell_use.cell) c.in-None.ensures.planes) plane x y
