use Rattle.std.proofs.Common.{Option, IfSome, subst}
use Rattle.mls_errorplane.proofs.Common.{AreRightIn, Checked}
use Rattle.mls_errorplane.proofs.checked.Checked.after.Goals as goal

pub returns-in-Some : goal.returns-in-Some
returns-in-Some c = λ rules layout marks right here.
    c.then.ensures rules layout marks (subst (λ (o : Option Checked). IfSome o (AreRightIn rules layout marks)) c.in-Some.is right) here
