use Rattle.std.proofs.Common.{arith}
use Rattle.mls_tilepool.proofs.OwnerCalls.{unreserved-same}
use Rattle.mls_paint.proofs.planes.space_plane.Goals as goal

pub returns-clause-taken : goal.returns-clause-taken
returns-clause-taken c =
    omega (arith, unreserved-same c.reserve.new.self c.build.new.pool c.build.ensures.only.rooms c.build.ensures.only.capacity, c.in_ok-owner.ensures.taken)
