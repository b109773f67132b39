-- Each turn takes the rectangle of one plane more.
use Rattle.std.proofs.Common.{map, sym, ap, ◌∙◌, arith}
use Rattle.std.proofs.lemmas.List.{length-map, take_all}
use Rattle.mls_library.specs.Bounds.{any_painted, are_painted, bounds_of, round_both}
use Rattle.mls_library.proofs.CellBounds.{bounds_of-next, bounds_of-no_lists}
use Rattle.mls_library.proofs.bounds.bounds_of.Goals as goal

pub loop-strips-init : goal.loop-strips-init
loop-strips-init c = sym bounds_of-no_lists

pub loop-strips-preserved : goal.loop-strips-preserved
loop-strips-preserved c =
    let strips = c.strips-item.result in
    c.round_both-bounds.ensures
    ∙ ap (λ so_far. round_both so_far c.strips_bounds.result) c.loop-strips.invariant
    ∙ ap (round_both _) (c.strips_bounds.ensures ∙ ap (λ list. bounds_of (are_painted list)) c.deref.ensures.value)
    ∙ sym (bounds_of-next (λ strips. strips.items) c.args.planes.now c.loop-strips.strips-index strips c.loop-strips-test.true c.strips-item.is)

pub returns : goal.returns
returns c =
    let planes = c.args.planes.now in
    let lists = map (λ strips. strips.items) planes in
    c.loop-strips.invariant ∙ ap (λ all. bounds_of (any_painted all)) (take_all c.loop-strips.strips-index lists (omega (arith, length-map planes (λ strips. strips.items), c.loop-strips-test.false)))
