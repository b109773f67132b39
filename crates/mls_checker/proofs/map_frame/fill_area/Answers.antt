use Rattle.std.proofs.Common.{ap, ◌∙◌, ◌-◌, arith}
use Rattle.mls_geom.specs.Rects.{Rect, common}
use Rattle.mls_checker.specs.Maps.{frame_area}
use Rattle.mls_checker.proofs.MapFrames.{area-word, between-in-word}
use Rattle.mls_checker.proofs.map_frame.fill_area.Goals as goal

pub loop-word-preserved : goal.loop-word-preserved
loop-word-preserved c =
    let frame = c.args.frame in
    let e = common c.args.area.now (frame_area frame) in
    let is = c.part.view_is ∙ c.common-part.ensures ∙ ap (common c.args.area.now) c.area-whole.ensures.value in
    let whole = c.whole.view_is ∙ c.area-whole.ensures.value in
    let left = ap (λ (e : Rect). e.left) is in
    let bottom = ap (λ (e : Rect). e.bottom) is in
    let right = ap (λ (e : Rect). e.right) is in
    let top = ap (λ (e : Rect). e.top) is in
    let line = ap (λ (e : Rect). e.left) whole in
    let low = ap (λ (e : Rect). e.bottom) whole in
    area-word frame c.args.area.now c.args.map.now c.loop-word.map c.fill_column.new.map c.loop-word.word _ _ _ (omega (arith, bottom, low)) (omega (arith, top, low))
    (λ k below. c.mask.ensures k ∙ between-in-word (e.left - frame.left) (e.right - frame.left) c.saturating_sub-first.result c.min-last.result c.loop-word.word k
    (omega (arith, left, line)) (omega (arith, right, line)) below)
    (rw c.words.ensures at c.fill_column.ensures) c.loop-word.invariant
