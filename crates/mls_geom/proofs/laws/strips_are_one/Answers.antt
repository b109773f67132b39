use Rattle.mls_geom.proofs.StripLaws.{strips_are_one}
use Rattle.mls_geom.proofs.laws.strips_are_one.Goals as goal

pub returns : goal.returns
returns c = strips_are_one
