-- A finished finding is a check step, after which the marks are right in its piece, and stay so where they were.
use Rattle.std.proofs.Common.{subst, sym}
use Rattle.mls_errorplane.proofs.Common.{AreRight, Rect}
use Rattle.mls_errorplane.proofs.StretchSteps.{Finished-AreRightIn}
use Rattle.mls_errorplane.proofs.checked.Checked.after_finding.Goals as goal

pub returns-in-Finished : goal.returns-in-Finished
returns-in-Finished c = λ rules planes layout limit old new finished right.
    Finished-AreRightIn rules planes layout limit old new c.args.finding.now c.args.outcome c.args.checked c.after.result finished c.in-Finished.is right
    (λ before here. c.after.ensures rules layout new.marks before (subst (λ (piece : Rect). AreRight rules layout new.marks piece) (sym c.piece.ensures) here))
