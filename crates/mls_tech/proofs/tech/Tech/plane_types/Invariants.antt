use Rattle.std.proofs.Common.{◌≡◌}
use Rattle.mls_tech.specs.Readings.{lies_on_plane}
use Rattle.mls_kinds.specs.KindSets.{set_of}
use Rattle.mls_tech.proofs.TypeTests.{below}
use Rattle.mls_tech.proofs.tech.Tech.plane_types.Given as goal

abbrev pub invariant-loop-number : goal.invariant-loop-number
invariant-loop-number l = l.set ≡ set_of (below (lies_on_plane l.self.type_planes l.plane) l.number)
