use Rattle.mls_geom.proofs.UnorderedStrips.{unordered_strips_number}
use Rattle.mls_geom.proofs.laws.unordered_strips_number.Goals as goal

pub returns : goal.returns
returns c = unordered_strips_number
