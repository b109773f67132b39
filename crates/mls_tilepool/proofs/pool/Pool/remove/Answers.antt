use Rattle.std.proofs.Common.{◌≡◌, sym, ◌∙◌}
use Rattle.mls_tilepool.proofs.PoolViews.{HoldsTile, holds_tile, place_there, row_there, tile_at-place_own}
use Rattle.mls_tilepool.proofs.Removing.{first_after, first_after-none, first_after-some}
use Rattle.mls_tilepool.proofs.TileCalls.{Changes-removed, IsPool-removed, count_of-removed, counted}
use Rattle.mls_tilepool.proofs.pool.Pool.remove.Goals.{in-Some, in-None}
use Rattle.mls_tilepool.proofs.pool.Pool.remove.Goals as goal

pub remove-place-requires : goal.remove-place-requires
remove-place-requires c =
    let s = c.self.inside in
    place_there s.capacity s.reserved s.places s.rows c.args.owner.now c.id.inside.0 (rw (c.self.view_is, c.id.view_is) c.requires)

pub index-row-requires : goal.index-row-requires
index-row-requires c =
    let s = c.self.inside in
    row_there s.capacity s.reserved s.places s.rows c.self.invariant c.owner.inside.0 c.id.inside.0 (rw (c.self.view_is, c.id.view_is, c.owner.view_is) c.requires)

pub overflow_sub-row : goal.overflow_sub-row
overflow_sub-row c =
    let s = c.self.inside in
    counted (holds_tile s.capacity s.reserved s.places s.rows c.self.invariant c.owner.inside.0 c.id.inside.0 c.index-row.result.now c.remove-place.result
    (rw (c.self.view_is, c.id.view_is, c.owner.view_is) c.requires) c.index-row.ensures c.remove-place.ensures.value)

-- the row's first tile, as the code finds it
first_is : (c : goal.After-self-1) → c.match-place.first ≡ first_after c.remove-place.result.previous c.remove-place.result.next c.index-row.result.now.first
first_is c =
    let place = c.remove-place.result in
    let link = c.index-row.result.now.first in
    elim c.match-place.branch [
      | in-Some w ↦ w.first-is ∙ sym (first_after-some place.previous place.next link _ w.in-Some.is)
      | in-None w ↦ w.first-is ∙ sym (first_after-none place.previous place.next link w.in-None.is)
    ]

-- the owner's tile under the key
held : (c : goal.After-self-1)
    → HoldsTile c.self.inside.capacity c.self.inside.reserved c.self.inside.places c.self.inside.rows c.owner.inside.0 c.id.inside.0 c.index-row.result.now c.remove-place.result
held c =
    let s = c.self.inside in
    holds_tile s.capacity s.reserved s.places s.rows c.self.invariant c.owner.inside.0 c.id.inside.0 c.index-row.result.now c.remove-place.result
    (rw (c.self.view_is, c.id.view_is, c.owner.view_is) c.requires) c.index-row.ensures c.remove-place.ensures.value

pub invariant_of-self : goal.invariant_of-self
invariant_of-self c =
    let removed = c.remove-place in
    rw (first_is c)
    (IsPool-removed (held c) removed.new.self c.link_next.new.places c.link_previous.new.places removed.ensures.updates c.link_next.ensures.links c.link_previous.ensures.links
    removed.ensures.len removed.ensures.capacity)

pub returns-clause-tile : goal.returns-clause-tile
returns-clause-tile c =
    let s = c.self.inside in
    let tile = held c in
    rw (← c.self.view_is, ← c.owner.view_is, ← c.id.view_is)
    (tile_at-place_own s.capacity s.reserved s.places s.rows c.owner.inside.0 c.id.inside.0 c.remove-place.result tile.found tile.owns)

pub returns-clause-changes : goal.returns-clause-changes
returns-clause-changes c =
    let removed = c.remove-place in
    rw (← c.self.view_is, ← c.owner.view_is, ← c.id.view_is, first_is c)
    (Changes-removed (held c) removed.new.self c.link_next.new.places c.link_previous.new.places removed.ensures.updates c.link_next.ensures.links c.link_previous.ensures.links)

pub returns-clause-count : goal.returns-clause-count
returns-clause-count c =
    let removed = c.remove-place in
    rw (← c.self.view_is, ← c.owner.view_is, first_is c)
    (count_of-removed (held c) removed.new.self c.link_next.new.places c.link_previous.new.places removed.ensures.updates c.link_next.ensures.links c.link_previous.ensures.links
    removed.ensures.len removed.ensures.capacity)
