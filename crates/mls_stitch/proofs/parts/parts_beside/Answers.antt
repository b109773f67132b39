-- A square outside the inner rectangle lies on one side of it.
use Rattle.std.proofs.Common.{◌≡◌, true, false, sym, ◌∙◌, subst}
use Rattle.mls_stitch.proofs.Common.{Rect, holds}
use Rattle.mls_stitch.proofs.PartsBeside.{parts_cover}
use Rattle.mls_stitch.proofs.parts.parts_beside.Goals as goal

pub returns : goal.returns
returns c at inside outside =
    let w = c.whole.inside in
    let e = c.inner.inside in
    let whole : Rect = record { left = w.left; bottom = w.bottom; right = w.right; top = w.top } in
    let inner : Rect = record { left = e.left; bottom = e.bottom; right = e.right; top = e.top } in
    parts_cover whole inner c.part_of.result c.part_of-2.result c.part_of-3.result c.part_of-4.result at c.part_of.ensures c.part_of-2.ensures c.part_of-3.ensures c.part_of-4.ensures
    (subst (λ (r : Rect). holds r at.x at.y ≡ true) (sym (c.whole.view_is ∙ c.area-whole.ensures.value)) inside)
    (subst (λ (r : Rect). holds r at.x at.y ≡ false) (sym (c.inner.view_is ∙ c.area-inner.ensures.value)) outside)
