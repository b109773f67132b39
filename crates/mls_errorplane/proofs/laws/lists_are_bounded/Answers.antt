use Rattle.mls_errorplane.proofs.AreaSizes.{area_of-le}
use Rattle.mls_errorplane.proofs.laws.lists_are_bounded.Goals as goal

pub returns : goal.returns
returns c = area_of-le
