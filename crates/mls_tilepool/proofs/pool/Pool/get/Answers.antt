use Rattle.std.proofs.Common.{sym}
use Rattle.mls_tilepool.proofs.PoolViews.{tile_at-place_other, tile_at-place_own, tile_at-vacant}
use Rattle.mls_tilepool.proofs.pool.Pool.get.Goals as goal

pub returns-in_err-place : goal.returns-in_err-place
returns-in_err-place c =
    let s = c.self.inside in
    rw (c.from_residual.ensures, ← c.self.view_is, ← c.id.view_is)
    (sym (tile_at-vacant s.capacity s.reserved s.places s.rows c.args.owner.now c.id.inside.0 (sym c.in_err-place.ensures)))

pub returns-then-place-owner : goal.returns-then-place-owner
returns-then-place-owner c =
    let s = c.self.inside in
    rw (← c.self.view_is, ← c.id.view_is, ← c.owner.view_is)
    (sym (tile_at-place_own s.capacity s.reserved s.places s.rows c.owner.inside.0 c.id.inside.0 c.in_ok-place.place.now (sym c.in_ok-place.ensures) c.if-place-owner.true))

pub returns-else-place-owner : goal.returns-else-place-owner
returns-else-place-owner c =
    let s = c.self.inside in
    rw (← c.self.view_is, ← c.id.view_is, ← c.owner.view_is)
    (sym (tile_at-place_other s.capacity s.reserved s.places s.rows c.owner.inside.0 c.id.inside.0 c.in_ok-place.place.now (sym c.in_ok-place.ensures) c.if-place-owner.false))
