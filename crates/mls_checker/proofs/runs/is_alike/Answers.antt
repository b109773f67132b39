use Rattle.std.proofs.Common.{◌≡◌, ℕ, ◌+◌, ◌-◌, ◌*◌, ◌<◌, ◌≤◌, List, slice_index, sym, ap, ◌∙◌, arith}
use Rattle.mls_geom.specs.Rects.{Rect}
use Rattle.mls_checker.specs.Maps.{Frame}
use Rattle.mls_checker.proofs.AlikeRows.{alike-words}
use Rattle.mls_checker.proofs.runs.is_alike.Goals as goal

pub returns-clause-alike : goal.returns-clause-alike
returns-clause-alike c is =
    let map = c.args.map.now in
    let row = c.args.row in
    let low = ap (λ (e : Rect). e.bottom) (c.area-2.view_is ∙ c.area.ensures.value ∙ c.rect.ensures.value) in
    let bottom = ap (λ (e : Rect). e.bottom) (c.first.view_is ∙ c.area-3.ensures.value) ∙ ap (λ (f : Frame). f.bottom) c.frame-frame.ensures in
    let width = c.words-width.ensures ∙ ap (λ (f : Frame). f.words) c.frame-frame.ensures in
    let first = ap (λ b. (row - b) * c.words-width.result) bottom ∙ ap (λ w. (row - map.frame.bottom) * w) width in
    let same : (i : ℕ) → (row - map.frame.bottom) * map.frame.words ≤ i → i < (row - map.frame.bottom) * map.frame.words + map.frame.words → slice_index map.words i ≡ slice_index map.words (i - map.frame.words) =
    λ i on under. ap (λ (ws : List ℕ). slice_index ws i) (sym c.words-words.ensures)
    ∙ c.loop-index.invariant i (omega (arith, first, on)) (omega (arith, first, width, under))
    ∙ ap (λ (ws : List ℕ). slice_index ws (i - c.words-width.result)) c.words-words.ensures ∙ ap (λ w. slice_index map.words (i - w)) width in
    alike-words map row c.rect.ensures.map (omega (arith, low)) c.requires.before same
