-- Each turn appends the line of one rectangle more.
use Rattle.std.proofs.Common.{sym, ap}
use Rattle.std.proofs.lemmas.List.{take_all}
use Rattle.mls_library.proofs.AppendedTexts.{Appends-nothing, Appends-same, Appends-stopped, Appends-then}
use Rattle.mls_library.proofs.MarkedTexts.{rects_text, rects_text-more, rects_text-parts}
use Rattle.mls_library.proofs.SavedTexts.{text_of-none}
use Rattle.mls_library.proofs.marked.push_rects.Goals as goal

pub loop-rect-init : goal.loop-rect-init
loop-rect-init c = Appends-same _ _ _ _ _ (sym text_of-none) (Appends-nothing tt c.args.out.now)

pub loop-rect-preserved : goal.loop-rect-preserved
loop-rect-preserved c =
    Appends-same _ _ _ _ _ (sym (rects_text-more c.args.rects.now c.loop-rect.rect-index c.rect-item.result c.loop-rect-test.true c.rect-item.is))
    (Appends-then _ _ _ _ _ _ _ c.loop-rect.invariant c.in_ok-push_rect.ensures)

pub returns-in_err-push_rect : goal.returns-in_err-push_rect
returns-in_err-push_rect c =
    let stopped = Appends-stopped c.from_residual.result _ _ _ _ _ c.from_residual.ensures.0 c.in_err-push_rect.ensures in
    Appends-same c.from_residual.result _ _ _ _ (rects_text-parts c.args.rects.now c.loop-rect.rect-index c.rect-item.result c.loop-rect-test.true c.rect-item.is)
    (Appends-then c.from_residual.result _ _ _ _ _ _ c.loop-rect.invariant stopped)

pub returns : goal.returns
returns c = Appends-same _ _ _ _ _ (ap rects_text (take_all c.loop-rect.rect-index c.args.rects.now c.loop-rect-test.false)) c.loop-rect.invariant
