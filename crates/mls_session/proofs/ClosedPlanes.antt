-- Planes at home in a pool that are given back to it one after the other.
use Rattle.std.proofs.Common.{◌≡◌, ◌≢◌, ℕ, ◌+◌, ◌*◌, ◌<◌, List, [], ◌∷◌, ◌++◌, length, Some, IfSome, All, AllPairs, Contains, refl, sym, ap, ◌∙◌, subst, append-nil, arith, length-append}
use Rattle.std.proofs.lemmas.List.{get_or_append_left, get_or_at, length_push, nil_from_length}
use Rattle.mls_session.proofs.Common.{IsOwner, Pool, RemovesOwners, plane_reserve, room_of}
use Rattle.mls_paint.proofs.OwnerFrames.{RemovesOwners-append}
use Rattle.mls_session.specs.Designs.{AreAtHome, Design, IsHome, owners_of}
use Rattle.mls_session.proofs.ErrorPlanes.{is_none_of}

-- an owner is none of those before it
none_before : (done rest : List ℕ) (owner : ℕ) → AllPairs (λ a b. a ≢ b) (done ++ owner ∷ rest) → ¬ (Contains done owner)
none_before done rest owner apart found =
    let later : length done < length (done ++ owner ∷ rest) = omega (arith, length-append done (owner ∷ rest)) in
    apart found.0 (length done) owner found.1 later
    (get_or_append_left done (owner ∷ rest) owner found.0 found.1 ∙ found.2 ∙ sym (get_or_at done owner rest owner (length done) refl))

-- while those before it are given back, its reserve stays
pub room-left :
    (old mid : Pool) (design : Design) (done rest : List ℕ) (owner tiles : ℕ) → AreAtHome old design.quota design.planes → done ++ owner ∷ rest ≡ design.planes
    → RemovesOwners old mid done tiles → room_of mid owner ≡ Some (plane_reserve design.quota)
room-left old mid design done rest owner tiles home split so_far =
    let apart = subst (AllPairs (λ a b. a ≢ b)) (sym split) home.apart in
    let reserves = subst (λ owners. All (λ other. room_of old other ≡ Some (plane_reserve design.quota)) owners) (sym split) home.reserves in
    let later : length done < length (done ++ owner ∷ rest) = omega (arith, length-append done (owner ∷ rest)) in
    so_far.rooms owner (none_before done rest owner apart) ∙ ap (room_of old) (sym (get_or_at done owner rest owner (length done) refl))
    ∙ reserves (length done) owner later

-- as many reserves as there are owners
one_more : (owners : List ℕ) (owner reserve : ℕ) → length owners * reserve + reserve ≡ length (owners ++ owner ∷ []) * reserve
one_more owners owner reserve = rw (length_push owners owner) (sum_more (length owners) reserve)
  where
    sum_more : (n reserve : ℕ) → n * reserve + reserve ≡ (n + 1) * reserve
    sum_more n reserve = omega arith

-- one plane more is given back
pub RemovesOwners-plane :
    (old mid new : Pool) (design : Design) (done rest : List ℕ) (owner : ℕ) → AreAtHome old design.quota design.planes → done ++ owner ∷ rest ≡ design.planes
    → RemovesOwners old mid done (length done * plane_reserve design.quota)
    → IfSome (room_of mid owner) (λ room. RemovesOwners mid new (owner ∷ []) room)
    → RemovesOwners old new (done ++ owner ∷ []) (length (done ++ owner ∷ []) * plane_reserve design.quota)
RemovesOwners-plane old mid new design done rest owner home split so_far closed =
    let reserve = plane_reserve design.quota in
    let room = room-left old mid design done rest owner (length done * reserve) home split so_far in
    let removed : RemovesOwners mid new (owner ∷ []) reserve = rw room at closed in
    subst (RemovesOwners old new (done ++ owner ∷ [])) (one_more done owner reserve)
    (RemovesOwners-append old mid new done (owner ∷ []) (length done * reserve) reserve so_far removed)

-- once none is left, all are
pub all_given_back :
    (old mid : Pool) (design : Design) (done rest : List ℕ) → done ++ rest ≡ design.planes → length rest ≡ 0 → RemovesOwners old mid done (length done * plane_reserve design.quota)
    → RemovesOwners old mid design.planes (length design.planes * plane_reserve design.quota)
all_given_back old mid design done rest split none so_far =
    let empty : rest ≡ [] = nil_from_length rest none in
    let all : done ≡ design.planes = sym (append-nil done) ∙ ap (λ (left : List ℕ). done ++ left) (sym empty) ∙ split in
    subst (λ (owners : List ℕ). RemovesOwners old mid owners (length owners * plane_reserve design.quota)) all so_far

-- an owner with a reserve is one of the pool
pub is_owner : (pool : Pool) (owner tiles : ℕ) → room_of pool owner ≡ Some tiles → IsOwner pool owner
is_owner pool owner tiles room = rw room refl

-- while the layout's planes are given back, the error plane's reserve stays
pub room-errors :
    (old mid : Pool) (design : Design) (tiles : ℕ) → IsHome old design → RemovesOwners old mid design.planes tiles
    → room_of mid design.errors.owner ≡ Some (plane_reserve design.quota)
room-errors old mid design tiles home removed =
    removed.rooms design.errors.owner (is_none_of design.planes design.errors.owner home.errors.apart) ∙ home.errors.reserve

-- and then it is given back too
pub RemovesOwners-errors :
    (old mid new : Pool) (design : Design) → IsHome old design → RemovesOwners old mid design.planes (length design.planes * plane_reserve design.quota)
    → IfSome (room_of mid design.errors.owner) (λ room. RemovesOwners mid new (design.errors.owner ∷ []) room)
    → RemovesOwners old new (owners_of design) (length (owners_of design) * plane_reserve design.quota)
RemovesOwners-errors old mid new design home first closed =
    let planes = design.planes in
    let owner = design.errors.owner in
    let reserve = plane_reserve design.quota in
    let room = room-errors old mid design (length planes * reserve) home first in
    let second : RemovesOwners mid new (owner ∷ []) reserve = rw room at closed in
    subst (RemovesOwners old new (owners_of design)) (one_more planes owner reserve)
    (RemovesOwners-append old mid new planes (owner ∷ []) (length planes * reserve) reserve first second)
