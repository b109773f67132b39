use Rattle.std.proofs.Common.{subst}
use Rattle.mls_geom.specs.Rects.{Rect}
use Rattle.mls_layout.proofs.Places.{HasFilled, cleared-grid, given-back}
use Rattle.mls_layout.proofs.kind_grid.KindGrid.clear.Goals as goal

pub returns : goal.returns
returns c =
    let lent = c.deref_mut.result.now in
    let given = c.fill_rows.new.squares in
    let back = given-back c.self.inside.squares.items lent given c.self.inside.squares.len c.deref_mut.ensures.value c.fill_rows.auto.squares c.deref_mut.ensures.len in
    cleared-grid lent given _ c.args.block back (subst (λ (e : Rect). HasFilled e e 0 lent given) c.area-lines.ensures.value c.fill_rows.ensures)
