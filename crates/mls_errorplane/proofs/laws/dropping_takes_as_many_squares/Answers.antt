use Rattle.mls_errorplane.proofs.AreaSizes.{area_of-dropped}
use Rattle.mls_errorplane.proofs.laws.dropping_takes_as_many_squares.Goals as goal

pub returns : goal.returns
returns c = area_of-dropped
