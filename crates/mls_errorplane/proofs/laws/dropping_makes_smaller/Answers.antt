use Rattle.mls_errorplane.proofs.AreaSizes.{area_of-dropped-less}
use Rattle.mls_errorplane.proofs.laws.dropping_makes_smaller.Goals as goal

pub returns : goal.returns
returns c = area_of-dropped-less
