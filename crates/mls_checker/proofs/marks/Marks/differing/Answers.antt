use Rattle.std.proofs.Common.{◌&&◌, sym, ap, subst}
use Rattle.mls_geom.specs.Rects.{holds}
use Rattle.mls_checker.specs.MarkMaps.{mapped}
use Rattle.mls_checker.specs.Marking.{IsBoundsOf, Marks, differing_squares, differs}
use Rattle.mls_checker.proofs.Bounds.{bounds-same}
use Rattle.mls_checker.proofs.marks.Marks.differing.Goals as goal

pub returns : goal.returns
returns c =
    let map = c.self.inside.map in
    let area = c.args.area in
    let wanted = c.args.is_marked in
    subst (λ (m : Marks). IsBoundsOf (differing_squares m area wanted) c.differing.result) c.self.view_is
    (bounds-same (λ x y. (holds map.rect x y && holds area x y) && differs wanted (mapped map x y))
    (differing_squares (record { rect = map.rect; areas = c.self.inside.areas.items }) area wanted) c.differing.result
    (λ x y. ap (λ b. (holds map.rect x y && holds area x y) && differs wanted b) (sym (c.self.invariant.squares x y)))
    c.differing.ensures)
