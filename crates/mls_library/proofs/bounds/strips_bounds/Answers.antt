-- Each turn takes the rectangle of a strip that isn't space.
use Rattle.std.proofs.Common.{Some, sym, ap, ◌∙◌}
use Rattle.std.proofs.lemmas.Bool.{eqb-false, eqb-true, not-false, not-true}
use Rattle.std.proofs.lemmas.List.{take_all}
use Rattle.mls_library.specs.Bounds.{are_painted, bounds_of, round_both}
use Rattle.mls_library.proofs.BoundedStrips.{bounds_of-next, bounds_of-no_pieces, bounds_of-same}
use Rattle.mls_library.proofs.bounds.strips_bounds.Goals as goal
use Rattle.mls_library.proofs.bounds.strips_bounds.Goals.{then-ne, else-ne}

pub loop-strip-init : goal.loop-strip-init
loop-strip-init c = sym bounds_of-no_pieces

pub loop-strip-preserved : goal.loop-strip-preserved
loop-strip-preserved c =
    let strips = c.args.strips.now in
    let i = c.loop-strip.strip-index in
    let strip = c.strip-item.result in
    elim c.if-ne.branch [
      | then-ne w ↦
          w.bounds-is ∙ w.round_both-bounds.ensures ∙ ap (λ so_far. round_both so_far (Some strip.rect)) c.loop-strip.invariant
          ∙ sym (bounds_of-next strips i strip c.loop-strip-test.true c.strip-item.is w.area.ensures.legal (eqb-false strip.kind 0 (not-true _ (sym c.ne.ensures ∙ w.if-ne.true))))
      | else-ne w ↦ w.bounds-is ∙ c.loop-strip.invariant ∙ sym (bounds_of-same strips i strip c.loop-strip-test.true c.strip-item.is (eqb-true strip.kind 0 (not-false _ (sym c.ne.ensures ∙ w.if-ne.false))))
    ]

pub returns : goal.returns
returns c =
    let strips = c.args.strips.now in
    c.loop-strip.invariant ∙ ap (λ list. bounds_of (are_painted list)) (take_all c.loop-strip.strip-index strips c.loop-strip-test.false)
