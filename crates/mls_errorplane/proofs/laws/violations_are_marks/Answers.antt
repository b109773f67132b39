use Rattle.mls_errorplane.proofs.GatheredMarks.{violations_are_marks}
use Rattle.mls_errorplane.proofs.laws.violations_are_marks.Goals as goal

pub returns : goal.returns
returns c = violations_are_marks
