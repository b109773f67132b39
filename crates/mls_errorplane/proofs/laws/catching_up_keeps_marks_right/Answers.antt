use Rattle.mls_errorplane.proofs.StepsDone.{AfterSteps-IsChecked}
use Rattle.mls_errorplane.proofs.laws.catching_up_keeps_marks_right.Goals as goal

pub returns : goal.returns
returns c = AfterSteps-IsChecked
