-- A sum that overflows is a line outside the world, and so is the greatest or the least number in its place.
use Rattle.std.proofs.Common.{rules, FitsSigned}
use Rattle.std.specs.Int.{w32}
use Rattle.std.proofs.lemmas.Int.{to_z-of_z}
use Rattle.mls_session.proofs.MovedRects.{alike-moved, moved_rect-saturated}
use Rattle.mls_session.proofs.moving.moved_rect.Goals as goal

pub returns : goal.returns
returns c =
    let e = c.args.rect in
    let along = c.ranges.dx in
    let up = c.ranges.dy in
    let left : FitsSigned w32 c.left.result = search rules in
    let bottom : FitsSigned w32 c.bottom.result = search rules in
    let right : FitsSigned w32 c.right.result = search rules in
    let top : FitsSigned w32 c.top.result = search rules in
    let sum_left = simp to_z-of_z at c.saturating_add-left.ensures in
    let sum_bottom = simp to_z-of_z at c.saturating_add-bottom.ensures in
    let sum_right = simp to_z-of_z at c.saturating_add-right.ensures in
    let sum_top = simp to_z-of_z at c.saturating_add-top.ensures in
    let new_left : FitsSigned w32 c.saturating_add-left.result = search rules in
    let new_bottom : FitsSigned w32 c.saturating_add-bottom.result = search rules in
    let new_right : FitsSigned w32 c.saturating_add-right.result = search rules in
    let new_top : FitsSigned w32 c.saturating_add-top.result = search rules in
    let made = simp to_z-of_z at c.new.ensures in
    moved_rect-saturated e c.args.dx c.args.dy c.saturating_add-left.result c.saturating_add-bottom.result c.saturating_add-right.result c.saturating_add-top.result c.new.result c.ok.result
    (alike-moved e.left c.left.result c.args.dx c.saturating_add-left.result c.left.ensures.value sum_left)
    (alike-moved e.bottom c.bottom.result c.args.dy c.saturating_add-bottom.result c.bottom.ensures.value sum_bottom)
    (alike-moved e.right c.right.result c.args.dx c.saturating_add-right.result c.right.ensures.value sum_right)
    (alike-moved e.top c.top.result c.args.dy c.saturating_add-top.result c.top.ensures.value sum_top) made c.ok.ensures.value
