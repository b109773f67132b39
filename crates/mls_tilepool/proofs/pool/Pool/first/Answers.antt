use Rattle.mls_tilepool.proofs.PoolViews.{first_none, first_tile}
use Rattle.mls_tilepool.proofs.pool.Pool.first.Goals as goal

pub returns-in_err-key-clause-none : goal.returns-in_err-key-clause-none
returns-in_err-key-clause-none c =
    let s = c.self.inside in
    rw (c.from_residual.ensures, ← c.self.view_is, ← c.owner.view_is)
    (first_none s.capacity s.reserved s.places s.rows c.self.invariant c.owner.inside.0 c.index.result.now c.index.ensures c.in_err-key.was)

pub returns-clause-some : goal.returns-clause-some
returns-clause-some c =
    let s = c.self.inside in
    rw (← c.self.view_is, ← c.owner.view_is)
    (first_tile s.capacity s.reserved s.places s.rows c.self.invariant c.owner.inside.0 c.index.result.now c.index.ensures c.in_ok-key.key c.in_ok-key.was)
