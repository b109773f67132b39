use Rattle.mls_geom.proofs.CoveredCounts.{fresh_strips_number}
use Rattle.mls_geom.proofs.laws.fresh_strips_number.Goals as goal

pub returns : goal.returns
returns c = fresh_strips_number
