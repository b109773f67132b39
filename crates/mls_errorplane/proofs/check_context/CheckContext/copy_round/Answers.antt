use Rattle.std.proofs.Common.{ap, ◌∙◌}
use Rattle.mls_errorplane.specs.Common.{Rect, common, copied_layout, flat_layout, grown, within, world}
use Rattle.mls_errorplane.proofs.check_context.CheckContext.copy_round.Goals as goal

pub returns-clause-copied : goal.returns-clause-copied
returns-clause-copied c =
    let rect = c.args.rect in
    let layout = flat_layout c.args.workspace.now.pool c.args.self.now.uses c.args.planes.now in
    let zone = c.grow-zone.ensures.value ∙ ap (λ h. common (grown h rect) world) c.halo.ensures.value in
    ap copied_layout c.stitch.ensures ∙ c.in_ok-snapshot.ensures.layout ∙ ap (λ (e : Rect). within e layout) zone
