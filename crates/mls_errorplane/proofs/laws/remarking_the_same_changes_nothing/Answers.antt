use Rattle.mls_errorplane.proofs.ShownMarks.{remarked-same}
use Rattle.mls_errorplane.proofs.laws.remarking_the_same_changes_nothing.Goals as goal

pub returns : goal.returns
returns c = remarked-same
