-- What stays of the planes of other owners, as the tiles of some owners change and as owners are added.
use Rattle.std.proofs.Common.{◌≡◌, ◌≢◌, ℕ, zero, suc, ◌+◌, ◌<◌, List, [], ◌∷◌, ◌++◌, length, get_or, Option, Some, None, IfSome, All, Contains, inl, inr, refl, sym, ap, subst, ◌∙◌, arith}
use Rattle.std.proofs.Math.Path.{fun_ext}
use Rattle.std.proofs.lemmas.Bool.{cases_eq}
use Rattle.std.proofs.lemmas.List.Elements.{All-append, All-cons, All-contains, All-nil, All-push, Contains-append_left, Contains-append_right, Contains-push}
use Rattle.std.proofs.lemmas.Option.{slice_get_read}
use Rattle.mls_tilepool.specs.Pools.{Pool, Reserves, reserved, room_of, tiles_of, unreserved}
use Rattle.mls_stitch.specs.Tilings.{ChangesOnly, IsMaximal, IsPlane, shown}
use Rattle.mls_stitch.proofs.DistinctNumbers.{cases_Contains}
use Rattle.mls_stitch.proofs.OtherPlanes.{apart_from_new}
use Rattle.mls_paint.specs.Owners.{AddsOwners, ChangesAmong, IsGone, RemovesOwners}
use Rattle.mls_paint.specs.Planes.{AddsOwner, HasStrips, layout_in, picture_at, picture_in}

-- what an owner's plane shows, by its place among the planes
pub layout_in-at : (pool : Pool) (owners : List ℕ) (plane owner : ℕ) → plane < length owners → owner ≡ get_or owners plane owner → layout_in pool owners plane ≡ picture_in pool owner
layout_in-at pool owners plane owner within is = ap (picture_at pool) (slice_get_read owners (length owners) plane owner refl within is)

-- planes that show what they showed are the layout that they were
layout_in-kept-at :
    (old new : Pool) (planes : List ℕ) → All (λ owner. picture_in new owner ≡ picture_in old owner) planes → (plane : ℕ)
    → layout_in new planes plane ≡ layout_in old planes plane
layout_in-kept-at old new [] kept plane = refl
layout_in-kept-at old new (owner ∷ planes) kept zero = kept 0 owner (omega arith)
layout_in-kept-at old new (owner ∷ planes) kept (suc plane) = layout_in-kept-at old new planes (λ k d within. kept (suc k) d (omega (arith, within))) plane

pub layout_in-kept : (old new : Pool) (planes : List ℕ) → All (λ owner. picture_in new owner ≡ picture_in old owner) planes → layout_in new planes ≡ layout_in old planes
layout_in-kept old new planes kept = fun_ext (layout_in-kept-at old new planes kept)

-- an owner whose tiles and whose reserve stay keeps its plane in strips
pub HasStrips-kept :
    (old new : Pool) (owner : ℕ) → tiles_of new owner ≡ tiles_of old owner → room_of new owner ≡ room_of old owner → HasStrips old owner → HasStrips new owner
HasStrips-kept old new owner tiles room before = record {
  plane = record {
    live = rw room before.plane.live;
    plane = subst IsPlane (sym tiles) before.plane.plane;
  };
  maximal = subst IsMaximal (sym tiles) before.maximal;
}

-- an owner of a plane has a reserve
pub has_room-HasStrips : (pool : Pool) (owner : ℕ) → HasStrips pool owner → room_of pool owner ≢ None
has_room-HasStrips pool owner strips none = apart_from_new pool owner owner none strips.plane.live refl

-- a change of one owner's tiles: every plane in strips stays so, if the owner's does
pub HasStrips-ChangesOnly : (old new : Pool) (owner other : ℕ) → ChangesOnly old new owner → HasStrips new owner → HasStrips old other → HasStrips new other
HasStrips-ChangesOnly old new owner other changed strips before = elim (cases_eq other owner) [
  | inl same ↦ subst (HasStrips new) (sym same) strips
  | inr differ ↦ HasStrips-kept old new other (changed.others other differ) (ap (λ rooms. room_of (record old { rooms = rooms }) other) changed.rooms) before
]

-- changes among owners: none, one after the other, of one of them, and among more of them
pub ChangesAmong-refl : (pool : Pool) (owners : List ℕ) → ChangesAmong pool pool owners
ChangesAmong-refl pool owners = record { others = λ other apart. refl; rooms = refl; capacity = refl }

pub ChangesAmong-trans : (old mid new : Pool) (owners : List ℕ) → ChangesAmong old mid owners → ChangesAmong mid new owners → ChangesAmong old new owners
ChangesAmong-trans old mid new owners first second = record {
  others = λ other apart. second.others other apart ∙ first.others other apart;
  rooms = second.rooms ∙ first.rooms;
  capacity = second.capacity ∙ first.capacity;
}

pub ChangesAmong-ChangesOnly : (old new : Pool) (owners : List ℕ) (owner : ℕ) → Contains owners owner → ChangesOnly old new owner → ChangesAmong old new owners
ChangesAmong-ChangesOnly old new owners owner among changed = record {
  others = λ other apart. changed.others other (λ same. apart (subst (Contains owners) (sym same) among));
  rooms = changed.rooms;
  capacity = changed.capacity;
}

pub ChangesAmong-more : (old new : Pool) (owners more : List ℕ) → All (Contains more) owners → ChangesAmong old new owners → ChangesAmong old new more
ChangesAmong-more old new owners more among changed = record {
  others = λ other apart. changed.others other (λ found. apart (All-contains (Contains more) owners other among found));
  rooms = changed.rooms;
  capacity = changed.capacity;
}

-- they leave every reserve and what is unreserved, and of all other owners the plane and what it shows
pub room_of-ChangesAmong : (old new : Pool) (owners : List ℕ) (other : ℕ) → ChangesAmong old new owners → room_of new other ≡ room_of old other
room_of-ChangesAmong old new owners other changed = ap (λ rooms. room_of (record old { rooms = rooms }) other) changed.rooms

pub unreserved-ChangesAmong : (old new : Pool) (owners : List ℕ) → ChangesAmong old new owners → unreserved new ≡ unreserved old
unfolding reserved
unreserved-ChangesAmong old new owners changed = rw (changed.rooms, changed.capacity) refl

pub picture_in-ChangesAmong :
    (old new : Pool) (owners : List ℕ) (other : ℕ) → ChangesAmong old new owners → ¬ (Contains owners other) → picture_in new other ≡ picture_in old other
picture_in-ChangesAmong old new owners other changed apart = ap shown (changed.others other apart)

pub HasStrips-ChangesAmong :
    (old new : Pool) (owners : List ℕ) (other : ℕ) → ChangesAmong old new owners → ¬ (Contains owners other) → HasStrips old other → HasStrips new other
HasStrips-ChangesAmong old new owners other changed apart before =
    HasStrips-kept old new other (changed.others other apart) (room_of-ChangesAmong old new owners other changed) before

pub layout_in-ChangesAmong :
    (old new : Pool) (owners planes : List ℕ) → ChangesAmong old new owners → All (λ owner. ¬ (Contains owners owner)) planes
    → layout_in new planes ≡ layout_in old planes
layout_in-ChangesAmong old new owners planes changed apart =
    layout_in-kept old new planes (λ k d within. picture_in-ChangesAmong old new owners (get_or planes k d) changed (apart k d within))

-- an owner that is added is none of the owners of planes, and leaves their planes
pub apart_from_added : (old new : Pool) (owner other tiles : ℕ) → AddsOwner old new owner tiles → room_of old other ≢ None → other ≢ owner
apart_from_added old new owner other tiles added live same = live (ap (room_of old) same ∙ added.unused)

pub HasStrips-AddsOwner : (old new : Pool) (owner other tiles : ℕ) → AddsOwner old new owner tiles → HasStrips old other → HasStrips new other
HasStrips-AddsOwner old new owner other tiles added before =
    let apart = apart_from_added old new owner other tiles added (has_room-HasStrips old other before) in
    HasStrips-kept old new other (added.others other apart) (added.rooms other apart) before

-- owners are added one after the other
pub AddsOwners-none : (pool : Pool) → AddsOwners pool pool [] 0
AddsOwners-none pool = record {
  unused = λ k d within. absurd (omega arith);
  live = λ k d within. absurd (omega arith);
  rooms = λ other apart. refl;
  others = λ other apart. refl;
  taken = omega arith;
  capacity = refl;
}

pub AddsOwners-push :
    (old mid new : Pool) (owners : List ℕ) (owner before tiles : ℕ) → AddsOwners old mid owners before → All (λ other. other ≢ owner) owners
    → AddsOwner mid new owner tiles → unreserved new + tiles ≡ unreserved mid → AddsOwners old new (owners ++ owner ∷ []) (before + tiles)
AddsOwners-push old mid new owners owner before tiles so_far differ added taken = record {
  unused = All-push (λ other. room_of old other ≡ None) owners owner so_far.unused (sym (so_far.rooms owner is_new) ∙ added.unused);
  live = All-push (λ other. room_of new other ≢ None) owners owner
      (λ k d within none. so_far.live k d within (sym (added.rooms (get_or owners k d) (differ k d within)) ∙ none)) (λ none. absurd (cc (sym added.room ∙ none)));
  rooms = λ other none. added.rooms other (not_last other none) ∙ so_far.rooms other (not_before other none);
  others = λ other none. added.others other (not_last other none) ∙ so_far.others other (not_before other none);
  taken = omega (arith, so_far.taken, taken);
  capacity = added.capacity ∙ so_far.capacity;
}
  where
    is_new : ¬ (Contains owners owner)
    is_new found = differ found.0 owner found.1 found.2

    not_before : (other : ℕ) → ¬ (Contains (owners ++ owner ∷ []) other) → ¬ (Contains owners other)
    not_before other none found = none (Contains-append_left owners (owner ∷ []) other found)

    not_last : (other : ℕ) → ¬ (Contains (owners ++ owner ∷ []) other) → other ≢ owner
    not_last other none same = none (subst (λ o. Contains (owners ++ owner ∷ []) o) (sym same) (Contains-push owners owner))

-- and then their tiles may change
pub AddsOwners-ChangesAmong :
    (old mid new : Pool) (owners : List ℕ) (tiles : ℕ) → AddsOwners old mid owners tiles → ChangesAmong mid new owners → AddsOwners old new owners tiles
AddsOwners-ChangesAmong old mid new owners tiles added changed = record {
  unused = added.unused;
  live = λ k d within none. added.live k d within (sym (room_of-ChangesAmong mid new owners (get_or owners k d) changed) ∙ none);
  rooms = λ other apart. room_of-ChangesAmong mid new owners other changed ∙ added.rooms other apart;
  others = λ other apart. changed.others other apart ∙ added.others other apart;
  taken = omega (arith, added.taken, unreserved-ChangesAmong mid new owners changed);
  capacity = changed.capacity ∙ added.capacity;
}

-- owners are removed one after the other
pub RemovesOwners-none : (pool : Pool) → RemovesOwners pool pool [] 0
RemovesOwners-none pool = record {
  gone = λ k d within. absurd (omega arith);
  rooms = λ other apart. refl;
  others = λ other apart. refl;
  given_back = omega arith;
  capacity = refl;
}

pub RemovesOwners-one :
    (old new : Pool) (owner : ℕ) (room : Option ℕ) → Reserves old new owner None → IfSome room (λ tiles. unreserved new ≡ unreserved old + tiles)
    → IfSome room (λ tiles. RemovesOwners old new (owner ∷ []) tiles)
RemovesOwners-one old new owner None released given_back = given_back
RemovesOwners-one old new owner (Some tiles) released given_back = record {
  gone = All-cons (IsGone new) owner [] (record { room = released.room; empty = released.empty }) (All-nil (IsGone new));
  rooms = λ other apart. released.rooms other (differs other apart);
  others = λ other apart. released.others other (differs other apart);
  given_back = given_back;
  capacity = released.capacity;
}
  where
    differs : (other : ℕ) → ¬ (Contains (owner ∷ []) other) → other ≢ owner
    differs other apart same = apart (0, omega arith, sym same)

pub RemovesOwners-append :
    (old mid new : Pool) (some more : List ℕ) (before tiles : ℕ) → RemovesOwners old mid some before → RemovesOwners mid new more tiles
    → RemovesOwners old new (some ++ more) (before + tiles)
RemovesOwners-append old mid new some more before tiles first second = record {
  gone = All-append (IsGone new) some more (λ k d within. still_gone (get_or some k d) (first.gone k d within)) second.gone;
  rooms = λ other none. second.rooms other (not_more other none) ∙ first.rooms other (not_some other none);
  others = λ other none. second.others other (not_more other none) ∙ first.others other (not_some other none);
  given_back = omega (arith, first.given_back, second.given_back);
  capacity = second.capacity ∙ first.capacity;
}
  where
    not_some : (other : ℕ) → ¬ (Contains (some ++ more) other) → ¬ (Contains some other)
    not_some other none found = none (Contains-append_left some more other found)

    not_more : (other : ℕ) → ¬ (Contains (some ++ more) other) → ¬ (Contains more other)
    not_more other none found = none (Contains-append_right some more other found)

    -- an owner that was gone is so still, whether it is removed again or not
    still_gone : (owner : ℕ) → IsGone mid owner → IsGone new owner
    still_gone owner gone = elim (cases_Contains more owner) [
      | inl among ↦ All-contains (IsGone new) more owner second.gone among
      | inr apart ↦ record { room = second.rooms owner apart ∙ gone.room; empty = second.others owner apart ∙ gone.empty }
    ]

-- they leave what had a reserve before: the reserve, the plane and what it shows
pub not_added : (old new : Pool) (owners : List ℕ) (other tiles : ℕ) → AddsOwners old new owners tiles → room_of old other ≢ None → ¬ (Contains owners other)
not_added old new owners other tiles added live found = live (All-contains (λ owner. room_of old owner ≡ None) owners other added.unused found)

pub room_of-AddsOwners :
    (old new : Pool) (owners : List ℕ) (other tiles : ℕ) → AddsOwners old new owners tiles → room_of old other ≢ None → room_of new other ≡ room_of old other
room_of-AddsOwners old new owners other tiles added live = added.rooms other (not_added old new owners other tiles added live)

pub picture_in-AddsOwners :
    (old new : Pool) (owners : List ℕ) (other tiles : ℕ) → AddsOwners old new owners tiles → room_of old other ≢ None → picture_in new other ≡ picture_in old other
picture_in-AddsOwners old new owners other tiles added live = ap shown (added.others other (not_added old new owners other tiles added live))

pub HasStrips-AddsOwners : (old new : Pool) (owners : List ℕ) (other tiles : ℕ) → AddsOwners old new owners tiles → HasStrips old other → HasStrips new other
HasStrips-AddsOwners old new owners other tiles added before =
    let apart = not_added old new owners other tiles added (has_room-HasStrips old other before) in
    HasStrips-kept old new other (added.others other apart) (added.rooms other apart) before

pub layout_in-AddsOwners :
    (old new : Pool) (owners planes : List ℕ) (tiles : ℕ) → AddsOwners old new owners tiles → All (λ owner. room_of old owner ≢ None) planes
    → layout_in new planes ≡ layout_in old planes
layout_in-AddsOwners old new owners planes tiles added live =
    layout_in-kept old new planes (λ k d within. picture_in-AddsOwners old new owners (get_or planes k d) tiles added (live k d within))
