-- The strips of what the plane shows are one list.
use Rattle.std.proofs.Common.{rules}
use Rattle.mls_geom.proofs.StripLists.{strips_are_listed}
use Rattle.mls_paint.proofs.planes.strips_of.Goals as goal

pub returns-clause-listed : goal.returns-clause-listed
returns-clause-listed c = strips_are_listed _ _ _ (search rules)
