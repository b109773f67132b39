-- What a change of one owner's tiles leaves of the planes of all others.
use Rattle.std.proofs.Common.{◌≡◌, ◌≢◌, ℕ, Option, None, ap, sym, subst, ◌∙◌, is_some}
use Rattle.mls_stitch.proofs.Common.{Pool, IsOwner, Reserves, room_of, ChangesOnly, HasPlane, IsPlane}

-- an owner differs from one who was not there
pub apart_from_new : (pool : Pool) (owner other : ℕ) → room_of pool owner ≡ None → IsOwner pool other → other ≢ owner
apart_from_new pool owner other unused live same =
    let none : is_some (room_of pool other) ≡ is_some {T = ℕ} None = ap (λ n. is_some (room_of pool n)) same ∙ ap is_some unused in
    cc

-- a reserve that is made or given back leaves all other owners and their planes
pub IsOwner-Reserves :
    (old new : Pool) (owner other : ℕ) (tiles : Option ℕ) → Reserves old new owner tiles → other ≢ owner → IsOwner old other → IsOwner new other
IsOwner-Reserves old new owner other tiles changed apart live = rw (changed.rooms other apart) live

pub HasPlane-Reserves :
    (old new : Pool) (owner other : ℕ) (tiles : Option ℕ) → Reserves old new owner tiles → other ≢ owner → HasPlane old other → HasPlane new other
HasPlane-Reserves old new owner other tiles changed apart home = record {
  live = IsOwner-Reserves old new owner other tiles changed apart home.live;
  plane = subst IsPlane (sym (changed.others other apart)) home.plane;
}

-- and so does a change of tiles
pub HasPlane-ChangesOnly : (old new : Pool) (owner other : ℕ) → ChangesOnly old new owner → other ≢ owner → HasPlane old other → HasPlane new other
HasPlane-ChangesOnly old new owner other changed apart home = record {
  live = rw changed.rooms home.live;
  plane = subst IsPlane (sym (changed.others other apart)) home.plane;
}
