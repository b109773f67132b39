use Rattle.std.proofs.Common.{◌+◌, ◌&&◌, ap, sym, subst, arith}
use Rattle.std.specs.Prelude.{nat_lt}
use Rattle.mls_geom.specs.Rects.{Rect, holds}
use Rattle.mls_checker.specs.Maps.{has_place, place_of}
use Rattle.mls_checker.specs.MarkMaps.{IsTightOf}
use Rattle.mls_checker.specs.Marking.{differs}
use Rattle.mls_checker.proofs.PlaceEnds.{rows-bounds, rows-more}
use Rattle.mls_checker.proofs.mark_map.bounds_of_rows.Goals as goal

pub loop-row-preserved : goal.loop-row-preserved
loop-row-preserved c =
    subst (λ (e : Rect). IsTightOf (λ x y. nat_lt y (c.loop-row.row + 1) && (holds c.args.part.now x y && differs c.args.is_marked (has_place c.args.words.now (place_of c.args.frame x y)))) e)
    (sym c.joined-bounds.ensures)
    (rows-more (λ x y. holds c.args.part.now x y && differs c.args.is_marked (has_place c.args.words.now (place_of c.args.frame x y))) c.loop-row.row c.loop-row.bounds c.bounds_of_row.result
    c.loop-row.invariant c.bounds_of_row.ensures)

pub returns : goal.returns
returns c =
    let top = ap (λ (e : Rect). e.top) c.part.view_is in
    let right = ap (λ (e : Rect). e.right) c.part.view_is in
    rows-bounds c.args.part.now (λ x y. differs c.args.is_marked (has_place c.args.words.now (place_of c.args.frame x y))) c.loop-row.row c.loop-row.bounds
    (omega (arith, top)) (omega (arith, right)) (omega (arith, top)) c.loop-row.invariant
