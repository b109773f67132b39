use Rattle.std.proofs.Common.{◌≡◌, ap, ◌∙◌}
use Rattle.mls_geom.specs.Rects.{Rect}
use Rattle.mls_layout.specs.Grids.{grid_picture}
use Rattle.mls_layout.proofs.Covers.{columns-more}
use Rattle.mls_layout.proofs.grid_pieces.push_row.Goals as goal

pub runs-preserved : goal.runs-preserved
runs-preserved c =
    let block = c.args.block.now in
    let picture = grid_picture c.args.squares.now block in
    let run = c.run_from-run.result in
    let found = c.run_from-run.ensures in
    let right : c.left.inside.right ≡ run.rect.right = ap (λ (e : Rect). e.right) (c.left.view_is ∙ c.area.ensures.value) in
    columns-more block picture c.args.first c.args.row c.runs.left c.left.inside.right run c.args.out.now.items c.runs.out.items _ right found c.runs.invariant.from
    c.runs.invariant.gained (c.in_ok-push_run.ensures block picture found.legal found.shown)
