use Rattle.mls_errorplane.proofs.CheckedSquares.{step-IsChecked}
use Rattle.mls_errorplane.proofs.laws.steps_keep_marks_right.Goals as goal

pub returns : goal.returns
returns c = step-IsChecked
