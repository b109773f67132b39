use Rattle.std.proofs.Common.{Some, refl, sym, ap, ◌∙◌, arith}
use Rattle.mls_tilepool.proofs.Common.{false≢true}
use Rattle.mls_tilepool.proofs.PoolSteps.{room_for_tile, room_reserved}
use Rattle.mls_tilepool.proofs.PoolViews.{count_of-row, room_of-row, tile_at-vacant}
use Rattle.mls_tilepool.proofs.TileCalls.{Changes-added, IsPool-added, count_of-added}
use Rattle.mls_tilepool.proofs.pool.Pool.add.Goals as goal

pub returns-then-row-clause-no_room : goal.returns-then-row-clause-no_room
returns-then-row-clause-no_room c =
    let s = c.self.inside in
    let owner = c.owner.inside.0 in
    let row = c.index-row.result.now in
    rw (← c.self.view_is, ← c.owner.view_is) (
      λ _. room_of-row s.capacity s.reserved s.places s.rows owner row c.index-row.ensures
          ∙ ap Some (sym c.if-row.true ∙ count_of-row s.capacity s.reserved s.places s.rows c.self.invariant owner row c.index-row.ensures),
      λ _. refl,
    )

pub insert_reserved-key-requires : goal.insert_reserved-key-requires
insert_reserved-key-requires c =
    let s = c.self.inside in
    let owner = c.owner.inside.0 in
    let row = c.index-row.result.now in
    room_for_tile s.capacity s.reserved s.places s.rows owner row c.self.invariant c.index-row.ensures
    (omega (arith, c.if-row.false, (c.self.invariant.owners owner row c.index-row.ensures).within))

pub overflow_add-row : goal.overflow_add-row
overflow_add-row c =
    let s = c.self.inside in
    let owner = c.owner.inside.0 in
    let row = c.index-row.result.now in
    omega (
      arith,
      c.if-row.false,
      (c.self.invariant.owners owner row c.index-row.ensures).within,
      room_reserved s.capacity s.reserved s.places s.rows owner row c.self.invariant c.index-row.ensures,
      c.self.invariant.within,
    )

pub invariant_of-self : goal.invariant_of-self
invariant_of-self c =
    let s = c.self.inside in
    let owner = c.owner.inside.0 in
    let row = c.index-row.result.now in
    let done = c.insert_reserved-key in
    IsPool-added s.capacity s.reserved s.places s.rows owner row c.self.invariant c.index-row.ensures done.new.self c.link_previous.new.places done.result c.args.tile
    done.ensures.was_vacant done.ensures.updates c.link_previous.ensures.links
    (omega (arith, c.if-row.false, (c.self.invariant.owners owner row c.index-row.ensures).within)) done.ensures.len done.ensures.capacity

pub returns-clause-no_room : goal.returns-clause-no_room
returns-clause-no_room c =
    let s = c.self.inside in
    let owner = c.owner.inside.0 in
    let row = c.index-row.result.now in
    let room = room_of-row s.capacity s.reserved s.places s.rows owner row c.index-row.ensures in
    let count = count_of-row s.capacity s.reserved s.places s.rows c.self.invariant owner row c.index-row.ensures in
    rw (← c.self.view_is, ← c.owner.view_is)
    (λ wrong. absurd (false≢true wrong), λ full. let both = sym room ∙ full in absurd (c.if-row.false (cc)))

pub returns-clause-unused : goal.returns-clause-unused
returns-clause-unused c =
    let s = c.self.inside in
    rw (← c.self.view_is) (λ other. tile_at-vacant s.capacity s.reserved s.places s.rows other c.insert_reserved-key.result c.insert_reserved-key.ensures.was_vacant)

pub returns-clause-added : goal.returns-clause-added
returns-clause-added c =
    let s = c.self.inside in
    let done = c.insert_reserved-key in
    rw (← c.self.view_is, ← c.owner.view_is)
    (Changes-added s.capacity s.reserved s.places s.rows c.owner.inside.0 c.index-row.result.now c.self.invariant c.index-row.ensures done.new.self
    c.link_previous.new.places done.result c.args.tile done.ensures.was_vacant done.ensures.updates c.link_previous.ensures.links)

pub returns-clause-count : goal.returns-clause-count
returns-clause-count c =
    let s = c.self.inside in
    let owner = c.owner.inside.0 in
    let row = c.index-row.result.now in
    let done = c.insert_reserved-key in
    rw (← c.self.view_is, ← c.owner.view_is)
    (count_of-added s.capacity s.reserved s.places s.rows owner row c.self.invariant c.index-row.ensures done.new.self
    c.link_previous.new.places done.result c.args.tile done.ensures.was_vacant done.ensures.updates c.link_previous.ensures.links
    (omega (arith, c.if-row.false, (c.self.invariant.owners owner row c.index-row.ensures).within)) done.ensures.len done.ensures.capacity)

pub overflow_cast-key : goal.overflow_cast-key
overflow_cast-key c = omega (arith, c.self.invariant.place_keys, c.insert_reserved-key.ensures.key_in_range, c.insert_reserved-key.ensures.capacity)
