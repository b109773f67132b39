use Rattle.std.proofs.Common.{◌≡◌, length, refl, ap, arith}
use Rattle.std.proofs.lemmas.List.{get_or_read_under}
use Rattle.mls_geom.specs.Rects.{Rect}
use Rattle.mls_layout.proofs.UniformRows.{run-found}
use Rattle.mls_layout.proofs.grid_pieces.run_from.Goals as goal

pub returns : goal.returns
returns c =
    let block = c.args.block.now in
    let right : c.block.inside.right ≡ block.right = ap (λ (e : Rect). e.right) c.block.view_is in
    let squares = c.args.squares.now in
    let from = c.place_of-from.result in
    let kind = get_or_read_under squares from (length squares) c.index-squares-from.result 0 c.index-squares-from.is (omega (arith, c.end_of_alike-end.ensures, c.requires)) refl in
    rw kind (run-found squares block c.args.left c.args.row _ c.end_of_alike-end.result c.between.result c.requires.block c.requires.inside c.place_of-from.ensures.value
    c.end_of_alike-end.ensures.after (omega (arith, c.end_of_alike-end.ensures.within)) c.between.ensures c.end_of_alike-end.ensures.alike)
