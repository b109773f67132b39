use Rattle.std.proofs.Common.{◌≡◌, Some, IsSome}
use Rattle.mls_tilepool.proofs.Common.{get, tile_at, Row}
use Rattle.mls_tilepool.proofs.PoolViews.{HoldsTile, holds_tile, place_there, row_there, some_value, viewed}
use Rattle.mls_tilepool.proofs.TileCalls.{Changes-retiled, IsPool-retiled, count_of-retiled}
use Rattle.mls_tilepool.proofs.pool.Pool.set.Goals as goal

pub index_mut-requires : goal.index_mut-requires
index_mut-requires c =
    let s = c.self.inside in
    place_there s.capacity s.reserved s.places s.rows c.args.owner.now c.id.inside.0 (rw (c.self.view_is, c.id.view_is) c.requires)

-- the owner's tile, with the owner's row
module _ (c : goal.After-self-1) where
  there : IsSome (tile_at (viewed c.self.inside.capacity c.self.inside.reserved c.self.inside.places c.self.inside.rows) c.args.owner.now c.id.inside.0)
  there = rw (c.self.view_is, c.id.view_is) c.requires

  row : (row : Row) × (get c.self.inside.rows c.args.owner.now ≡ Some row)
  row =
      let s = c.self.inside in
      some_value (get s.rows c.args.owner.now) (row_there s.capacity s.reserved s.places s.rows c.self.invariant c.args.owner.now c.id.inside.0 there)

  held : HoldsTile c.self.inside.capacity c.self.inside.reserved c.self.inside.places c.self.inside.rows c.args.owner.now c.id.inside.0 row.0 c.index_mut.result.now
  held =
      let s = c.self.inside in
      holds_tile s.capacity s.reserved s.places s.rows c.self.invariant c.args.owner.now c.id.inside.0 row.0 c.index_mut.result.now there row.1 c.index_mut.ensures.value

pub invariant_of-self : goal.invariant_of-self
invariant_of-self c = IsPool-retiled (held c) c.args.tile

pub returns-clause-changes : goal.returns-clause-changes
returns-clause-changes c = rw (← c.self.view_is, ← c.id.view_is) (Changes-retiled (held c) c.args.tile)

pub returns-clause-count : goal.returns-clause-count
returns-clause-count c = rw (← c.self.view_is) (count_of-retiled (held c) c.args.tile)
