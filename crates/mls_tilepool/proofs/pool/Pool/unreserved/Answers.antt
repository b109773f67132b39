use Rattle.mls_tilepool.proofs.PoolViews.{unreserved-pool}
use Rattle.mls_tilepool.proofs.pool.Pool.unreserved.Goals as goal

pub returns : goal.returns
returns c = let s = c.self.inside in rw (← c.self.view_is) (unreserved-pool s.capacity s.reserved s.places s.rows c.self.invariant)
