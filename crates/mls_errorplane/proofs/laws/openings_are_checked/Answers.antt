use Rattle.mls_errorplane.proofs.EmptyLayouts.{opening-IsChecked}
use Rattle.mls_errorplane.proofs.laws.openings_are_checked.Goals as goal

pub returns : goal.returns
returns c = opening-IsChecked
