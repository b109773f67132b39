-- Planes at home in a pool: what is known of each, and what stays true as the pool changes.
use Rattle.std.proofs.Common.{◌≡◌, ◌≢◌, ℕ, ◌<◌, ◌≤◌, max, List, [], ◌∷◌, ◌++◌, length, get_or, set, Some, None, IfSome, All, AllPairs, inl, inr, sym, ap, ◌∙◌, subst, arith}
use Rattle.std.proofs.lemmas.Bool.{cases_lt}
use Rattle.std.proofs.lemmas.List.{set-get_or}
use Rattle.std.proofs.lemmas.List.Elements.{All-push}
use Rattle.std.proofs.lemmas.List.Quantifiers.{all_pairs_push}
use Rattle.mls_session.proofs.Common.{AddsOwner, AreAtHome, ChangesOnly, Design, HasStrips, Pool, most_tiles, plane_reserve, room_of}
use Rattle.mls_paint.proofs.OwnerFrames.{HasStrips-AddsOwner, HasStrips-ChangesOnly, apart_from_added, has_room-HasStrips}

-- a plane that was lent to a call comes back
pub planes_kept : (planes : List ℕ) (i before after : ℕ) → before ≡ get_or planes i before → after ≡ before → set planes i after ≡ planes
planes_kept planes i before after is same = ap (set planes i) (same ∙ is) ∙ set-get_or planes i before

-- owners at different places differ
pub owners_differ :
    (owners : List ℕ) (i j d : ℕ) → AllPairs (λ a b. a ≢ b) owners → i < length owners → j < length owners → i ≢ j
    → get_or owners i d ≢ get_or owners j d
owners_differ owners i j d apart i_in j_in differ same = elim (cases_lt i j) [
  | inl before ↦ apart i j d before j_in same
  | inr after ↦ apart j i d (omega (arith, after, differ)) i_in (sym same)
]

-- the plane under an index
pub HasStrips-at :
    (pool : Pool) (design : Design) (i owner : ℕ) → AreAtHome pool design.quota design.planes → i < length design.planes → owner ≡ get_or design.planes i owner
    → HasStrips pool owner
HasStrips-at pool design i owner home within is = subst (HasStrips pool) (sym is) (home.strips i owner within)

-- also in a pool that is the same
pub HasStrips-lent :
    (pool mid : Pool) (design : Design) (i owner : ℕ) → mid ≡ pool → AreAtHome pool design.quota design.planes → i < length design.planes → owner ≡ get_or design.planes i owner
    → HasStrips mid owner
HasStrips-lent pool mid design i owner same home within is = subst (λ (now : Pool). HasStrips now owner) (sym same) (HasStrips-at pool design i owner home within is)

-- its reserve fits where reserves of this quota do, and what fits the quota fits the reserve
pub room-at :
    (pool : Pool) (design : Design) (i owner capacity : ℕ) → AreAtHome pool design.quota design.planes → i < length design.planes → owner ≡ get_or design.planes i owner
    → plane_reserve design.quota ≤ capacity → IfSome (room_of pool owner) (λ room. room ≤ capacity)
room-at pool design i owner capacity home within is fits =
    let room : room_of pool owner ≡ Some (plane_reserve design.quota) = ap (room_of pool) is ∙ home.reserves i owner within in
    rw room fits

pub count-at :
    (pool : Pool) (design : Design) (i owner count : ℕ) → AreAtHome pool design.quota design.planes → i < length design.planes → owner ≡ get_or design.planes i owner
    → count ≤ design.quota → IfSome (room_of pool owner) (λ room. count ≤ room)
count-at pool design i owner count home within is few =
    let room : room_of pool owner ≡ Some (plane_reserve design.quota) = ap (room_of pool) is ∙ home.reserves i owner within in
    let fits : count ≤ plane_reserve design.quota = omega (arith, few) in
    rw room fits

pub limit-at :
    (pool : Pool) (design : Design) (i owner limit : ℕ) → AreAtHome pool design.quota design.planes → i < length design.planes → owner ≡ get_or design.planes i owner
    → limit ≡ design.quota → IfSome (room_of pool owner) (λ room. limit ≤ room)
limit-at pool design i owner limit home within is same = count-at pool design i owner limit home within is (omega (arith, same))

-- so do as many pieces as it has tiles, or as a cell's plane may have
pub pieces-at :
    (pool : Pool) (design : Design) (i owner count capacity : ℕ) → AreAtHome pool design.quota design.planes → i < length design.planes → owner ≡ get_or design.planes i owner
    → IfSome (room_of pool owner) (λ room. count ≤ max room most_tiles) → plane_reserve design.quota ≤ capacity → most_tiles ≤ capacity → count ≤ capacity
pieces-at pool design i owner count capacity home within is few reserve cell =
    let room : room_of pool owner ≡ Some (plane_reserve design.quota) = ap (room_of pool) is ∙ home.reserves i owner within in
    let fewer : count ≤ max (plane_reserve design.quota) most_tiles = rw room at few in
    omega (arith, fewer, reserve, cell)

-- they depend on the planes and the quota alone
pub AreAtHome-same : (pool : Pool) (old new : Design) → new.planes ≡ old.planes → new.quota ≡ old.quota → AreAtHome pool old.quota old.planes → AreAtHome pool new.quota new.planes
AreAtHome-same pool old new planes quota home = subst (λ tiles. AreAtHome pool tiles new.planes) (sym quota) (subst (AreAtHome pool old.quota) (sym planes) home)

-- a change of one owner's tiles that leaves its strips leaves all planes
pub AreAtHome-ChangesOnly :
    (old new : Pool) (quota : ℕ) (planes : List ℕ) (owner : ℕ) → ChangesOnly old new owner → HasStrips new owner → AreAtHome old quota planes → AreAtHome new quota planes
AreAtHome-ChangesOnly old new quota planes owner changed strips home = record {
  strips = λ k d within. HasStrips-ChangesOnly old new owner (get_or planes k d) changed strips (home.strips k d within);
  reserves = λ k d within. ap (λ rooms. get_or rooms (get_or planes k d) None) changed.rooms ∙ home.reserves k d within;
  apart = home.apart;
}

-- the owners so far differ from a new one
pub differ_from_new :
    (old new : Pool) (quota : ℕ) (planes : List ℕ) (owner tiles : ℕ) → AreAtHome old quota planes → AddsOwner old new owner tiles → All (λ other. other ≢ owner) planes
differ_from_new old new quota planes owner tiles home added k d within =
    apart_from_added old new owner (get_or planes k d) tiles added (has_room-HasStrips old (get_or planes k d) (home.strips k d within))

-- a new owner's plane beside those at home
pub AreAtHome-push :
    (old new : Pool) (quota : ℕ) (planes : List ℕ) (owner : ℕ) → AreAtHome old quota planes → AddsOwner old new owner (plane_reserve quota) → HasStrips new owner
    → AreAtHome new quota (planes ++ owner ∷ [])
AreAtHome-push old new quota planes owner home added strips =
    let differ = differ_from_new old new quota planes owner (plane_reserve quota) home added in
    record {
      strips =
          All-push (HasStrips new) planes owner
          (λ k d within. HasStrips-AddsOwner old new owner (get_or planes k d) (plane_reserve quota) added (home.strips k d within))
          strips;
      reserves =
          All-push (λ other. room_of new other ≡ Some (plane_reserve quota)) planes owner
          (λ k d within. added.rooms (get_or planes k d) (differ k d within) ∙ home.reserves k d within)
          added.room;
      apart = all_pairs_push (λ a b. a ≢ b) planes owner home.apart differ;
    }
