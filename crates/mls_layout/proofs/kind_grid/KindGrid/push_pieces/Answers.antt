use Rattle.std.proofs.Common.{◌≡◌, ap, ◌∙◌, arith}
use Rattle.mls_geom.specs.Rects.{Rect}
use Rattle.mls_layout.specs.Grids.{grid_picture}
use Rattle.mls_layout.proofs.Covers.{all-rows, rows-more}
use Rattle.mls_layout.proofs.kind_grid.KindGrid.push_pieces.Goals as goal

pub loop-row-preserved : goal.loop-row-preserved
loop-row-preserved c =
    let bottom : c.lines.inside.bottom ≡ c.args.block.bottom = ap (λ (e : Rect). e.bottom) (c.lines.view_is ∙ c.area-lines.ensures.value) in
    rows-more c.deref.result.now c.args.self.now c.area-lines.result c.args.block c.len-first.result _ c.loop-row.row c.args.out.now.items c.loop-row.out.items c.push_row.new.out.items
    (c.deref.ensures.value ∙ c.self.view_is) c.area-lines.ensures.value (omega arith) (omega arith) c.loop-row.invariant c.in_ok-push_row.ensures

pub returns : goal.returns
returns c =
    let same = c.lines.view_is ∙ c.area-lines.ensures.value in
    let bottom : c.lines.inside.bottom ≡ c.args.block.bottom = ap (λ (e : Rect). e.bottom) same in
    let top : c.lines.inside.top ≡ c.args.block.top = ap (λ (e : Rect). e.top) same in
    all-rows c.args.block (grid_picture c.args.self.now c.args.block) c.loop-row.row c.args.out.now.items c.loop-row.out.items (omega arith) c.loop-row.invariant
