use Rattle.std.proofs.Common.{◌+◌, ◌-◌, ◌*◌, ap, ◌∙◌}
use Rattle.mls_geom.specs.Rects.{Rect}
use Rattle.mls_checker.proofs.PlaceEnds.{row-ends-from}
use Rattle.mls_checker.proofs.mark_map.bounds_of_row.Goals as goal

pub returns-in-Some : goal.returns-in-Some
returns-in-Some c =
    let row = c.args.row in
    let part = c.args.part.now in
    let whole = c.whole.view_is ∙ c.area-whole.ensures.value in
    let left = ap (λ (e : Rect). e.left) whole in
    let low = ap (λ (e : Rect). e.bottom) whole in
    let from = ap (λ (e : Rect). e.left) c.part.view_is in
    let to = ap (λ (e : Rect). e.right) c.part.view_is in
    let start = (row - c.whole.inside.bottom) * (64 * c.words.result) in
    row-ends-from c.args.frame c.args.words.now c.args.is_marked part row c.whole.inside.left start
    (start + (c.part.inside.left - c.whole.inside.left)) (start + (c.part.inside.right - c.whole.inside.left)) c.in-Some.first c.in-Some.end
    c.requires.inside c.requires.from c.requires.to left
    (ap (λ b. (row - b) * (64 * c.words.result)) low ∙ ap (λ w. (row - c.args.frame.bottom) * (64 * w)) c.words.ensures)
    (ap (λ l. start + (l - c.whole.inside.left)) from ∙ ap (λ l. start + (part.left - l)) left)
    (ap (λ l. start + (l - c.whole.inside.left)) to ∙ ap (λ l. start + (part.right - l)) left)
    c.in-Some.ensures.some
