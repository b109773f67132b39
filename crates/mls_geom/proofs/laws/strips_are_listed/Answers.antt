use Rattle.mls_geom.proofs.StripLists.{strips_are_listed}
use Rattle.mls_geom.proofs.laws.strips_are_listed.Goals as goal

pub returns : goal.returns
returns c = strips_are_listed
