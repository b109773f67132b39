use Rattle.std.proofs.Common.{sym, ◌∙◌}
use Rattle.mls_paint.specs.Planes.{picture_in}
use Rattle.mls_layout.specs.Uses.{cell_layouts, flat_plane, uses_layout}
use Rattle.mls_layout.proofs.CoveredKinds.{kinds_in-agree}
use Rattle.mls_layout.proofs.FlatLayouts.{over-space}
use Rattle.mls_layout.proofs.shown_kinds.kinds.Goals as goal

pub returns-then-not-meet-clause-kinds : goal.returns-then-not-meet-clause-kinds
returns-then-not-meet-clause-kinds c =
    let pool = c.args.workspace.now.pool in
    let owner = c.args.plane.now in
    let uses = c.args.uses.now in
    let own = picture_in pool owner in
    let shown = flat_plane pool uses c.args.number owner in
    let others = uses_layout (cell_layouts pool uses.library.now) uses.list.now c.args.number in
    c.kinds.ensures.kinds
    ∙ kinds_in-agree c.args.rect own shown
    (λ x y inside. sym (over-space own others x y (c.meet.ensures.apart c.if-not-meet.true pool c.requires.flat.cells c.args.number x y inside)))
