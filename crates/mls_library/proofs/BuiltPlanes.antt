-- Planes are built one by one, each under a new owner.
use Rattle.std.proofs.Common.{◌≡◌, ◌≢◌, ℕ, ◌+◌, ◌<◌, ◌≤◌, List, [], ◌∷◌, ◌++◌, length, map, take, get_or, Some, None, All, inl, inr, sym, ap, ◌∙◌, subst, length-append, arith}
use Rattle.std.proofs.lemmas.Bool.{cases_eq}
use Rattle.std.proofs.lemmas.List.{get_or-map, get_or_append_left, get_or_push, length-map, map-append, take-map}
use Rattle.std.proofs.lemmas.List.Elements.{All-push}
use Rattle.std.proofs.lemmas.List.Quantifiers.{all_pairs_push}
use Rattle.std.proofs.lemmas.List.Sums.{sum_by_more_le, sum_by_push}
use Rattle.std.proofs.lemmas.Simd.{map-map}
use Rattle.mls_geom.specs.Pictures.{picture_of}
use Rattle.mls_geom.specs.TileCounts.{tile_count}
use Rattle.mls_geom.specs.World.{world}
use Rattle.mls_geom.specs.declared.piece.Piece.{Piece}
use Rattle.mls_geom.proofs.UnorderedStrips.{unordered_strips_number}
use Rattle.mls_tilepool.specs.Pools.{Pool, Reserves, room_of, tiles_of, unreserved}
use Rattle.mls_stitch.specs.Tilings.{ChangesOnly, shown}
use Rattle.mls_stitch.proofs.OtherPlanes.{apart_from_new}
use Rattle.mls_paint.specs.Owners.{AddsOwners}
use Rattle.mls_paint.specs.Planes.{AddsOwner, HasStrips, picture_in}
use Rattle.mls_paint.proofs.OwnerFrames.{AddsOwners-push, HasStrips-kept}
use Rattle.mls_library.specs.Inner.{AreBuilt, IsFrozenList}
use Rattle.mls_library.specs.Libraries.{IsFrozen, most_tiles, total}

-- a new owner's reserve, and then its tiles
pub AddsOwner-tiles :
    (old mid new : Pool) (owner tiles : ℕ) → room_of old owner ≡ None → Reserves old mid owner (Some tiles) → ChangesOnly mid new owner
    → AddsOwner old new owner tiles
AddsOwner-tiles old mid new owner tiles unused reserved only = record {
  unused = unused;
  room = ap (λ rooms. get_or rooms owner None) only.rooms ∙ reserved.room;
  rooms = λ other differ. ap (λ rooms. get_or rooms other None) only.rooms ∙ reserved.rooms other differ;
  others = λ other differ. only.others other differ ∙ reserved.others other differ;
  capacity = only.capacity ∙ reserved.capacity;
}

-- a frozen plane stays one while its tiles and its reserve do
pub IsFrozen-kept :
    (old new : Pool) (owner : ℕ) → tiles_of new owner ≡ tiles_of old owner → room_of new owner ≡ room_of old owner → IsFrozen old owner → IsFrozen new owner
IsFrozen-kept old new owner tiles room before = record {
  strips = HasStrips-kept old new owner tiles room before.strips;
  few = subst (λ held. tile_count world (shown held) ≤ most_tiles) (sym tiles) before.few;
  reserve = room ∙ before.reserve ∙ ap (λ held. Some (tile_count world (shown held))) (sym tiles);
}

-- a plane built of a list, with a reserve of just its length
pub IsFrozen-built :
    (new : Pool) (owner : ℕ) (list : List Piece) → HasStrips new owner → picture_in new owner ≡ picture_of list → IsFrozenList list
    → room_of new owner ≡ Some (length list) → IsFrozen new owner
IsFrozen-built new owner list strips shows frozen room =
    let number : length list ≡ tile_count world (picture_in new owner) =
    unordered_strips_number world (picture_of list) list frozen.strips ∙ ap (tile_count world) (sym shows)
    in
    record { strips = strips; few = omega (arith, number, frozen.few); reserve = room ∙ ap Some number }

-- one plane more
pub AreBuilt-push :
    (old mid new : Pool) (owners : List ℕ) (owner : ℕ) (lists : List (List Piece)) (list : List Piece) → AreBuilt old mid owners lists
    → AddsOwner mid new owner (length list) → unreserved new + length list ≡ unreserved mid → HasStrips new owner → picture_in new owner ≡ picture_of list
    → IsFrozenList list → AreBuilt old new (owners ++ owner ∷ []) (lists ++ list ∷ [])
AreBuilt-push old mid new owners owner lists list before added taken strips shows frozen = record {
  count = omega (arith, length-append owners (owner ∷ []), length-append lists (list ∷ []), before.count);
  frozen =
      All-push (IsFrozen new) owners owner
      (λ k d within. let other = get_or owners k d in
      IsFrozen-kept mid new other (added.others other (differ k d within)) (added.rooms other (differ k d within)) (before.frozen k d within))
      (IsFrozen-built new owner list strips shows frozen added.room);
  apart = all_pairs_push (λ a b. a ≢ b) owners owner before.apart differ;
  shows = each;
  added =
      subst (AddsOwners old new (owners ++ owner ∷ [])) (sym counted)
      (AddsOwners-push old mid new owners owner (total (map (λ l. length l) lists)) (length list) before.added differ added taken);
}
  where
    counted : total (map (λ l. length l) (lists ++ list ∷ [])) ≡ total (map (λ l. length l) lists) + length list
    counted = ap total (map-append (λ l. length l) lists (list ∷ [])) ∙ sum_by_push (λ count. count) (map (λ l. length l) lists) (length list)

    differ : All (λ other. other ≢ owner) owners
    differ k d within = apart_from_new mid owner (get_or owners k d) added.unused (before.frozen k d within).strips.plane.live

    each : (plane d : ℕ) (e : List Piece) → plane < length (lists ++ list ∷ [])
        → picture_in new (get_or (owners ++ owner ∷ []) plane d) ≡ picture_of (get_or (lists ++ list ∷ []) plane e)
    each plane d e within = elim (cases_eq plane (length lists)) [
      | inl same ↦
          ap (picture_in new) (get_or_push owners owner d plane (before.count ∙ sym same)) ∙ shows ∙ ap picture_of (sym (get_or_push lists list e plane (sym same)))
      | inr apart ↦
          let in_lists : plane < length lists = omega (arith, within, length-append lists (list ∷ []), apart) in
          let in_owners : plane < length owners = omega (arith, in_lists, before.count) in
          ap (picture_in new) (get_or_append_left owners (owner ∷ []) d plane in_owners)
          ∙ ap shown (added.others (get_or owners plane d) (differ plane d in_owners))
          ∙ before.shows plane d e in_lists
          ∙ ap picture_of (sym (get_or_append_left lists (list ∷ []) e plane in_lists))
    ]

-- the next list has room, where all lists together have
pub room_for_next :
    {X : Type 0} (items : X → List Piece) (lists : List X) (i : ℕ) (next : X) (old now : Pool) (owners : List ℕ) → i < length lists
    → next ≡ get_or lists i next → AreBuilt old now owners (map items (take i lists))
    → total (map (λ list. length (items list)) lists) ≤ unreserved old → length (items next) ≤ unreserved now
room_for_next items lists i next old now owners within is built room =
    let counts = map (λ list. length (items list)) lists in
    let before : map (λ l. length l) (map items (take i lists)) ≡ take i counts =
    map-map (λ l. length l) items (take i lists) ∙ sym (take-map (λ list. length (items list)) i lists)
    in
    let at : get_or counts i (length (items next)) ≡ length (items next) =
    get_or-map (λ list. length (items list)) lists i next (length (items next)) within ∙ ap (λ list. length (items list)) (sym is)
    in
    omega (arith, sum_by_more_le (λ count. count) counts i (length (items next)) (rw length-map within), built.added.taken, ap total before, at, room)
