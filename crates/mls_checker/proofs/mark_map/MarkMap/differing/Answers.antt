use Rattle.std.proofs.Common.{◌&&◌, List, ℕ, ap, subst, ◌∙◌}
use Rattle.mls_geom.specs.Rects.{common, holds}
use Rattle.mls_checker.specs.Maps.{has_place, place_of}
use Rattle.mls_checker.specs.MarkMaps.{MarkMap, mapped}
use Rattle.mls_checker.specs.Marking.{IsBoundsOf, differs}
use Rattle.mls_checker.proofs.Bounds.{bounds-same}
use Rattle.mls_checker.proofs.PlaceEnds.{part-squares}
use Rattle.mls_checker.proofs.mark_map.MarkMap.differing.Goals as goal

pub returns : goal.returns
returns c =
    let map : MarkMap = record { rect = c.self.inside.rect; frame = c.self.inside.frame; words = c.self.inside.words.items } in
    let area = c.args.area in
    let wanted = c.args.is_marked in
    let part = c.common-part.result in
    subst (λ (m : MarkMap). IsBoundsOf (λ x y. (holds m.rect x y && holds area x y) && differs wanted (mapped m x y)) c.bounds_of_rows.result) c.self.view_is
    (bounds-same (λ x y. holds part x y && differs wanted (has_place c.deref.result.now (place_of map.frame x y)))
    (λ x y. (holds map.rect x y && holds area x y) && differs wanted (mapped map x y)) c.bounds_of_rows.result
    (λ x y. ap (λ (words : List ℕ). holds part x y && differs wanted (has_place words (place_of map.frame x y))) c.deref.ensures.value
    ∙ part-squares map area part wanted x y (c.common-part.ensures ∙ ap (common area) c.area.ensures.value))
    c.bounds_of_rows.ensures)
