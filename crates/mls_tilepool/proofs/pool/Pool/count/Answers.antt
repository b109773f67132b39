use Rattle.std.proofs.Common.{◌≤◌}
use Rattle.mls_tilepool.proofs.PoolViews.{IfSome-at, count_of-row, room_of-row}
use Rattle.mls_tilepool.proofs.pool.Pool.count.Goals as goal

pub returns-clause-value : goal.returns-clause-value
returns-clause-value c =
    let s = c.self.inside in
    rw (← c.self.view_is, ← c.owner.view_is) (count_of-row s.capacity s.reserved s.places s.rows c.self.invariant c.owner.inside.0 c.index.result.now c.index.ensures)

pub returns-clause-within : goal.returns-clause-within
returns-clause-within c =
    let s = c.self.inside in
    let row = c.index.result.now in
    rw (← c.self.view_is, ← c.owner.view_is)
    (IfSome-at (λ room. row.count ≤ room) _ row.room (room_of-row s.capacity s.reserved s.places s.rows c.owner.inside.0 row c.index.ensures)
    (c.self.invariant.owners c.owner.inside.0 row c.index.ensures).within)
