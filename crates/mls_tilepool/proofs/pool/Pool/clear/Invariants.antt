use Rattle.mls_tilepool.specs.Pools.{count_of}
use Rattle.mls_tilepool.specs.Pools.{ChangesOnly}
use Rattle.mls_tilepool.proofs.pool.Pool.clear.Given as goal

abbrev pub invariant-loop-id : goal.invariant-loop-id
invariant-loop-id l = ChangesOnly l.initial.self l.self l.owner

abbrev pub decreases-loop-id : goal.decreases-loop-id
decreases-loop-id l = count_of l.self l.owner
