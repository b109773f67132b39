use Rattle.mls_errorplane.proofs.CheckedSquares.{edit-IsChecked}
use Rattle.mls_errorplane.proofs.laws.edits_keep_marks_right.Goals as goal

pub returns : goal.returns
returns c = edit-IsChecked
