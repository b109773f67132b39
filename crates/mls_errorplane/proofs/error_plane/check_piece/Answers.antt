use Rattle.std.proofs.Common.{sym, ap, ◌∙◌}
use Rattle.mls_errorplane.specs.Common.{Rect, flat_layout, within}
use Rattle.mls_errorplane.proofs.CheckedMarks.{flat-AgreeOutside, found-forbidden}
use Rattle.mls_errorplane.proofs.error_plane.check_piece.Goals as goal

pub returns-clause-marks : goal.returns-clause-marks
returns-clause-marks c =
    let layout = flat_layout c.args.workspace.now.pool c.args.context.now.uses c.args.planes.now in
    found-forbidden c.args.context.now.rules.now c.args.piece layout c.in_ok-snapshot.snapshot c.check_here.result (c.in_ok-snapshot.ensures.layout ∙ ap (λ (z : Rect). within z layout) (sym c.in_ok-snapshot.ensures.zone))
    (flat-AgreeOutside c.args.workspace.now.pool c.args.context.now.uses c.args.planes.now c.requires.layout.planes.each) c.check_here.ensures.piece c.check_here.ensures.snapshot c.check_here.ensures.rules c.check_here.ensures.exact
