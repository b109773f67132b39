use Rattle.std.proofs.Common.{subst, ◌∙◌}
use Rattle.mls_geom.specs.Rects.{Rect}
use Rattle.mls_layout.proofs.Places.{HasFilled, filled-grid, given-back}
use Rattle.mls_layout.proofs.kind_grid.KindGrid.fill.Goals as goal

pub returns : goal.returns
returns c =
    let piece = c.args.piece.now in
    let lent = c.deref_mut.result.now in
    let given = c.fill_rows.new.squares in
    let back = given-back c.self.inside.squares.items lent given c.self.inside.squares.len c.deref_mut.ensures.value c.fill_rows.auto.squares c.deref_mut.ensures.len in
    let filled = subst (λ (e : Rect). HasFilled c.args.block e piece.kind lent given) c.area-2.ensures.value
    (subst (λ (e : Rect). HasFilled e c.area-2.result piece.kind lent given) c.area.ensures.value c.fill_rows.ensures) in
    filled-grid c.args.self.now lent given _ c.args.block piece c.requires.inside (c.deref_mut.ensures.value ∙ c.self.view_is) back filled
