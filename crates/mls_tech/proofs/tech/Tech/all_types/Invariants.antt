use Rattle.std.proofs.Common.{◌≡◌, length, nat_le}
use Rattle.mls_kinds.specs.KindSets.{set_of}
use Rattle.mls_tech.proofs.TypeTests.{below}
use Rattle.mls_tech.proofs.tech.Tech.all_types.Given as goal

abbrev pub invariant-loop-number : goal.invariant-loop-number
invariant-loop-number l = l.set ≡ set_of (below (λ kind. nat_le kind (length l.self.type_planes)) l.number)
