-- Each turn appends the line of a strip of the kind.
use Rattle.std.proofs.Common.{sym, ap, ◌∙◌}
use Rattle.std.proofs.lemmas.List.{take_all}
use Rattle.mls_library.proofs.AppendedTexts.{Appends-nothing, Appends-same, Appends-stopped, Appends-then}
use Rattle.mls_library.proofs.SavedTexts.{text_of-none, strips_text, strips_text-parts, strips_text-passed, strips_text-pushed}
use Rattle.mls_library.proofs.saved.push_strips.Goals.{then-eq+in_ok-push_rect, else-eq}
use Rattle.mls_library.proofs.saved.push_strips.Goals as goal

pub loop-strip-init : goal.loop-strip-init
loop-strip-init c = Appends-same _ _ _ _ _ (sym text_of-none) (Appends-nothing tt c.args.out.now)

pub loop-strip-preserved : goal.loop-strip-preserved
loop-strip-preserved c =
    let kind = c.args.kind in
    let strips = c.args.strips.now in
    let i = c.loop-strip.strip-index in
    let strip = c.strip-item.result in
    elim c.if-eq.branch [
      | then-eq+in_ok-push_rect w ↦
          let line = Appends-then _ _ _ _ _ _ _ c.loop-strip.invariant w.in_ok-push_rect.ensures in
          rw w.out-is (Appends-same _ _ _ _ _ (strips_text-pushed kind strips i strip c.loop-strip-test.true c.strip-item.is (sym c.eq.ensures ∙ w.if-eq.true)) line)
      | else-eq w ↦
          let same = strips_text-passed kind strips i strip c.loop-strip-test.true c.strip-item.is (sym c.eq.ensures ∙ w.if-eq.false) in
          rw w.out-is (Appends-same _ _ _ _ _ same c.loop-strip.invariant)
    ]

pub returns-in_err-push_rect : goal.returns-in_err-push_rect
returns-in_err-push_rect c =
    let result = c.from_residual.result in
    let strip = c.strip-item.result in
    let own = sym c.eq.ensures ∙ c.if-eq.true in
    let stopped = Appends-stopped result _ _ _ _ _ c.from_residual.ensures.0 c.in_err-push_rect.ensures in
    Appends-same result _ _ _ _ (strips_text-parts c.args.kind c.args.strips.now c.loop-strip.strip-index strip c.loop-strip-test.true c.strip-item.is own)
    (Appends-then result _ _ _ _ _ _ c.loop-strip.invariant stopped)

pub returns : goal.returns
returns c = Appends-same _ _ _ _ _ (ap (strips_text c.args.kind) (take_all c.loop-strip.strip-index c.args.strips.now c.loop-strip-test.false)) c.loop-strip.invariant
