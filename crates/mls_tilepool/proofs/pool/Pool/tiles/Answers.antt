use Rattle.mls_tilepool.proofs.PoolViews.{ListsTiles-chain}
use Rattle.mls_tilepool.proofs.pool.Pool.tiles.Goals as goal

pub returns : goal.returns
returns c =
    let s = c.self.inside in
    rw (← c.self.view_is, ← c.owner.view_is)
    (ListsTiles-chain s.capacity s.reserved s.places s.rows c.self.invariant c.owner.inside.0 c.index-row.result.now c.index-row.ensures)
