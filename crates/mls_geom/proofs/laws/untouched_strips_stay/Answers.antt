use Rattle.mls_geom.proofs.UntouchedStrips.{untouched_strips_stay}
use Rattle.mls_geom.proofs.laws.untouched_strips_stay.Goals as goal

pub returns : goal.returns
returns c = untouched_strips_stay
