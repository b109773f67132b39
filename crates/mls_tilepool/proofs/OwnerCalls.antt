-- What reserving for a new owner, and releasing an owner, leave of a pool.
use Rattle.std.proofs.Common.{◌≡◌, ℕ, ◌+◌, ◌-◌, ◌≤◌, [], get_or, Option, Some, None, is_some, refl, sym, ap, ◌∙◌, arith}
use Rattle.mls_tilepool.proofs.Common.{Slab, Updates, get, ChangesOnly, Pool, Reserves, owned, reserved, tiles_of, unreserved, IsPool, held_of, pool_of, room_in, Place, Row}
use Rattle.mls_tilepool.proofs.PoolChanges.{held_at, owned-none, room_at, tiles_of-none, tiles_of-same}
use Rattle.mls_tilepool.proofs.PoolSteps.{IsPool-released, IsPool-reserved, none_owned, room_reserved}
use Rattle.mls_tilepool.proofs.PoolViews.{unreserved-pool}

-- an owner with no row has no place
pub unowned : (capacity reserved : ℕ) (places : Slab Place) (rows : Slab Row) (owner : ℕ) → IsPool capacity reserved places rows → get rows owner ≡ None → (key : ℕ) → owned owner (held_of (get places key)) ≡ None
unowned capacity reserved places rows owner is vacant key =
    none_owned owner (get places key) (λ place found same.
    let live = ap (λ k. is_some (get rows k)) (sym same) ∙ is.each key place found in
    let none = ap is_some vacant in
    cc)

-- an owner whose row changes, and that has no place
Reserves-updated :
    (capacity : ℕ) (places : Slab Place) (rows new : Slab Row) (owner : ℕ) (slot : Option Row)
    → Updates rows new owner slot → ((key : ℕ) → owned owner (held_of (get places key)) ≡ None)
    → Reserves (pool_of capacity places.slots rows.slots) (pool_of capacity places.slots new.slots) owner (room_in slot)
Reserves-updated capacity places rows new owner slot updates none =
    record {
      room = room_at new.slots owner ∙ ap room_in updates.changed;
      rooms = λ other differs. room_at new.slots other ∙ ap room_in (updates.others other differs) ∙ sym (room_at rows.slots other);
      empty = tiles_of-none (pool_of capacity places.slots new.slots) owner (λ key. ap (owned owner) (held_at places.slots key) ∙ none key);
      others = λ other differs. tiles_of-same (pool_of capacity places.slots rows.slots) (pool_of capacity places.slots new.slots) other (λ key. refl);
      capacity = refl;
    }

module _ (capacity reserved : ℕ) (places : Slab Place) (rows new : Slab Row) (owner : ℕ) (is : IsPool capacity reserved places rows) where
  -- reserving
  module _ (tiles : ℕ) (vacant : get rows owner ≡ None) (updates : Updates rows new owner (Some (record { room = tiles; count = 0; first = None }))) where
    pub Reserves-reserved : Reserves (pool_of capacity places.slots rows.slots) (pool_of capacity places.slots new.slots) owner (Some tiles)
    Reserves-reserved = Reserves-updated capacity places rows new owner (Some (record { room = tiles; count = 0; first = None })) updates (unowned capacity reserved places rows owner is vacant)

    pub unreserved-reserved :
        new.capacity ≡ rows.capacity → 1 ≤ tiles → reserved + tiles ≤ capacity
        → unreserved (pool_of capacity places.slots new.slots) + tiles ≡ unreserved (pool_of capacity places.slots rows.slots)
    unreserved-reserved space some fits =
        let is' = IsPool-reserved capacity reserved tiles places rows new owner is vacant updates space some fits in
        omega (arith, unreserved-pool capacity (reserved + tiles) places new is', unreserved-pool capacity reserved places rows is, fits)

  -- releasing
  module _ (row : Row) (found : get rows owner ≡ Some row) (updates : Updates rows new owner None) (space : new.capacity ≡ rows.capacity)
      (none : tiles_of (pool_of capacity places.slots rows.slots) owner ≡ []) where
    nothing_owned : (key : ℕ) → owned owner (held_of (get places key)) ≡ None
    nothing_owned key = ap (owned owner) (sym (held_at places.slots key)) ∙ owned-none (pool_of capacity places.slots rows.slots) owner key none

    pub IsPool-let_go : IsPool capacity (reserved - row.room) places new
    IsPool-let_go = IsPool-released capacity reserved places rows new owner row is found updates space nothing_owned

    pub Reserves-released : Reserves (pool_of capacity places.slots rows.slots) (pool_of capacity places.slots new.slots) owner None
    Reserves-released = Reserves-updated capacity places rows new owner None updates nothing_owned

    pub unreserved-released : unreserved (pool_of capacity places.slots new.slots) ≡ unreserved (pool_of capacity places.slots rows.slots) + row.room
    unreserved-released =
        omega (
          arith,
          unreserved-pool capacity (reserved - row.room) places new IsPool-let_go,
          unreserved-pool capacity reserved places rows is,
          room_reserved capacity reserved places rows owner row is found,
          is.within,
        )

-- two pools with the same capacity and reserves have as much unreserved
pub unreserved-same : (old new : Pool) → new.rooms ≡ old.rooms → new.capacity ≡ old.capacity → unreserved new ≡ unreserved old
unfolding reserved
unreserved-same old new rooms capacity = rw (rooms, capacity) refl

-- an owner goes once its tiles are gone
pub Reserves-from_released : (old now new : Pool) (owner : ℕ) → ChangesOnly old now owner → Reserves now new owner None → Reserves old new owner None
Reserves-from_released old now new owner kept released =
    record {
      room = released.room;
      rooms = λ other differs. released.rooms other differs ∙ ap (λ rooms. get_or rooms other None) kept.rooms;
      empty = released.empty;
      others = λ other differs. released.others other differs ∙ kept.others other differs;
      capacity = released.capacity ∙ kept.capacity;
    }
