use Rattle.std.proofs.Common.{pos, ◌-ℤ◌, ap, ◌∙◌, arith}
use Rattle.std.proofs.lemmas.Int.{to_z-of_z}
use Rattle.mls_geom.specs.Rects.{Rect}
use Rattle.mls_layout.proofs.MovedParts.{IsPartOf-lines, LiesAs-moved}
use Rattle.mls_layout.proofs.moves.part_moved_by.Goals as goal

pub returns : goal.returns
returns c =
    let e = c.args.rect in
    let extent = c.args.extent in
    let dx = c.args.dx in
    let dy = c.args.dy in
    let of_rect = c.lines.view_is ∙ c.area-lines.ensures.value in
    let of_extent = c.around.view_is ∙ c.area-around.ensures.value in
    let low = ap (λ (r : Rect). r.left) of_extent in
    let high = ap (λ (r : Rect). r.right) of_extent in
    let bottom = ap (λ (r : Rect). r.bottom) of_extent in
    let top = ap (λ (r : Rect). r.top) of_extent in
    let along = c.ranges.dx in
    let up = c.ranges.dy in
    let at_left = simp to_z-of_z at c.moved_line.ensures.squares in
    let at_bottom = simp to_z-of_z at c.moved_line-2.ensures.squares in
    let at_right = simp to_z-of_z at c.moved_line-3.ensures.squares in
    let at_top = simp to_z-of_z at c.moved_line-4.ensures.squares in
    let lines : Rect = record { left = c.moved_line.result; bottom = c.moved_line-2.result; right = c.moved_line-3.result; top = c.moved_line-4.result } in
    let part =
    IsPartOf-lines e extent lines (λ x. pos x -ℤ dx) (λ y. pos y -ℤ dy)
    (LiesAs-moved extent.left extent.right e.left lines.left _ _ _ dx low high (ap (λ (r : Rect). r.left) of_rect) at_left)
    (LiesAs-moved extent.left extent.right e.right lines.right _ _ _ dx low high (ap (λ (r : Rect). r.right) of_rect) at_right)
    (LiesAs-moved extent.bottom extent.top e.bottom lines.bottom _ _ _ dy bottom top (ap (λ (r : Rect). r.bottom) of_rect) at_bottom)
    (LiesAs-moved extent.bottom extent.top e.top lines.top _ _ _ dy bottom top (ap (λ (r : Rect). r.top) of_rect) at_top)
    (record {
      left = omega (arith, low, c.moved_line.ensures.from);
      bottom = omega (arith, bottom, c.moved_line-2.ensures.from);
      right = omega (arith, high, c.moved_line-3.ensures.to);
      top = omega (arith, top, c.moved_line-4.ensures.to);
    }) in
    rw c.some_rect.ensures part
