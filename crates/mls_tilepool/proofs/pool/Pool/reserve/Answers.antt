use Rattle.std.proofs.Common.{refl, arith}
use Rattle.mls_tilepool.proofs.Common.{false≢true}
use Rattle.mls_tilepool.proofs.OwnerCalls.{Reserves-reserved, unreserved-reserved}
use Rattle.mls_tilepool.proofs.PoolSteps.{IsPool-reserved, room_for_row}
use Rattle.mls_tilepool.proofs.PoolViews.{unreserved-pool}
use Rattle.mls_tilepool.proofs.pool.Pool.reserve.Goals as goal

pub returns-then-left-tiles-clause-full : goal.returns-then-left-tiles-clause-full
returns-then-left-tiles-clause-full c =
    let s = c.self.inside in
    let left = unreserved-pool s.capacity s.reserved s.places s.rows c.self.invariant in
    rw (← c.self.view_is) (λ _. omega (arith, left, c.if-left-tiles.true), λ _. refl)

pub insert_reserved-number-requires : goal.insert_reserved-number-requires
insert_reserved-number-requires c =
    let s = c.self.inside in
    room_for_row s.capacity s.reserved s.places s.rows c.self.invariant (omega (arith, c.if-left-tiles.false, c.requires))

pub invariant_of-self : goal.invariant_of-self
invariant_of-self c =
    let s = c.self.inside in
    let done = c.insert_reserved-number in
    IsPool-reserved s.capacity s.reserved c.args.tiles s.places s.rows done.new.self done.result c.self.invariant
    done.ensures.was_vacant done.ensures.updates done.ensures.capacity c.requires (omega (arith, c.if-left-tiles.false, c.self.invariant.within))

pub returns-clause-full : goal.returns-clause-full
returns-clause-full c =
    let s = c.self.inside in
    let left = unreserved-pool s.capacity s.reserved s.places s.rows c.self.invariant in
    rw (← c.self.view_is) (λ wrong. absurd (false≢true wrong), λ less. absurd (omega (arith, left, less, c.if-left-tiles.false)))

pub returns-clause-reserves : goal.returns-clause-reserves
returns-clause-reserves c =
    let s = c.self.inside in
    let done = c.insert_reserved-number in
    rw (← c.self.view_is)
    (Reserves-reserved s.capacity s.reserved s.places s.rows done.new.self done.result c.self.invariant c.args.tiles done.ensures.was_vacant done.ensures.updates)

pub returns-clause-taken : goal.returns-clause-taken
returns-clause-taken c =
    let s = c.self.inside in
    let done = c.insert_reserved-number in
    rw (← c.self.view_is)
    (unreserved-reserved s.capacity s.reserved s.places s.rows done.new.self done.result c.self.invariant c.args.tiles done.ensures.was_vacant done.ensures.updates
    done.ensures.capacity c.requires (omega (arith, c.if-left-tiles.false, c.self.invariant.within)))

pub overflow_cast-number : goal.overflow_cast-number
overflow_cast-number c = omega (arith, c.self.invariant.row_keys, c.insert_reserved-number.ensures.key_in_range, c.insert_reserved-number.ensures.capacity)
