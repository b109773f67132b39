use Rattle.mls_geom.proofs.TouchedStrips.{touched_strips_give_way}
use Rattle.mls_geom.proofs.laws.touched_strips_give_way.Goals as goal

pub returns : goal.returns
returns c = touched_strips_give_way
