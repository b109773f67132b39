use Rattle.std.proofs.Common.{inl, inr, ap, sym, ◌∙◌, arith}
use Rattle.std.proofs.lemmas.Bool.{cases_lt}
use Rattle.mls_geom.specs.Rects.{Rect}
use Rattle.mls_geom.proofs.Holds.{holds_between}
use Rattle.mls_checker.specs.Maps.{has_place, place_of}
use Rattle.mls_checker.proofs.FoundInRect.{none_in_rect}
use Rattle.mls_checker.proofs.PlaceEnds.{any-there, none-there, row-of}
use Rattle.mls_checker.proofs.mark_map.has_any.Goals as goal

pub loop-row-init : goal.loop-row-init
loop-row-init c x y here before =
    let bottom = ap (λ (e : Rect). e.bottom) (c.part.view_is ∙ c.area-part.ensures.value) in
    let lines = holds_between c.args.rect x y here in
    absurd (omega (arith, bottom, lines.2, before))

pub returns-then-first_place-to : goal.returns-then-first_place-to
returns-then-first_place-to c =
    let part = c.part.view_is ∙ c.area-part.ensures.value in
    let bottom = ap (λ (e : Rect). e.bottom) part in
    let top = ap (λ (e : Rect). e.top) part in
    let is = row-of c.args.frame c.args.rect _ _ c.words.result c.loop-row.row (c.whole.view_is ∙ c.area-whole.ensures.value) part c.words.ensures in
    sym (any-there c.args.frame c.args.rect c.args.words.now c.loop-row.row _ _ _ c.first_place.result c.requires.round (omega (arith, bottom)) (omega (arith, top)) is
    c.first_place.ensures.after c.if-first_place-to.true (c.first_place.ensures.there c.if-first_place-to.true))

pub loop-row-preserved : goal.loop-row-preserved
loop-row-preserved c x y here before =
    let is = row-of c.args.frame c.args.rect _ _ c.words.result c.loop-row.row (c.whole.view_is ∙ c.area-whole.ensures.value) (c.part.view_is ∙ c.area-part.ensures.value) c.words.ensures in
    elim (cases_lt y c.loop-row.row) [
      | inl earlier ↦ c.loop-row.invariant x y here earlier
      | inr later ↦ none-there c.args.frame c.args.rect c.args.words.now c.loop-row.row _ _ _ c.first_place.result c.requires.round is c.if-first_place-to.false
          (λ n on less. c.first_place.ensures.none n on less) x y here (omega (arith, before, later))
    ]

pub returns : goal.returns
returns c =
    let top = ap (λ (e : Rect). e.top) (c.part.view_is ∙ c.area-part.ensures.value) in
    sym (none_in_rect c.args.rect (λ x y. has_place c.args.words.now (place_of c.args.frame x y))
    (λ x y here. let lines = holds_between c.args.rect x y here in c.loop-row.invariant x y here (omega (arith, top, lines.3))))
