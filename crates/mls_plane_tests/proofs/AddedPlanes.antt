-- A plane that is added to a layout, and then painted, leaves the others.
use Rattle.std.proofs.Common.{◌≡◌, ◌≢◌, ℕ, List, [], ◌∷◌, ◌++◌, slice_index_or, get_or, Some, None, IsSome, All, sym, ap, ◌∙◌, subst}
use Rattle.std.proofs.lemmas.List.Elements.{All-push}
use Rattle.mls_tilepool.specs.Pools.{Pool, room_of, tiles_of}
use Rattle.mls_stitch.specs.Tilings.{ChangesOnly, IsMaximal, IsPlane}
use Rattle.mls_stitch.proofs.OtherPlanes.{apart_from_new}
use Rattle.mls_paint.specs.Planes.{AddsOwner, HasStrips}

-- a list grows by an owner, which is what it was before it was painted
pub pushed : (owners : List ℕ) {items : List ℕ} {painted owner : ℕ} → items ≡ owners ++ painted ∷ [] → painted ≡ owner → items ≡ owners ++ owner ∷ []
pushed owners grown same = grown ∙ ap (λ other. owners ++ other ∷ []) same

room_of-kept :
    (old mid new : Pool) (owner other tiles : ℕ) → AddsOwner old mid owner tiles → ChangesOnly mid new owner → other ≢ owner
    → room_of new other ≡ room_of old other
room_of-kept old mid new owner other tiles added changed differ =
    ap (λ rooms. slice_index_or rooms other None) changed.rooms ∙ added.rooms other differ

HasStrips-kept :
    (old mid new : Pool) (owner other tiles : ℕ) → AddsOwner old mid owner tiles → ChangesOnly mid new owner → other ≢ owner → HasStrips old other
    → HasStrips new other
HasStrips-kept old mid new owner other tiles added changed differ before =
    let same : tiles_of new other ≡ tiles_of old other = changed.others other differ ∙ added.others other differ in
    record {
      plane = record {
        live = subst (λ room. IsSome room) (sym (room_of-kept old mid new owner other tiles added changed differ)) before.plane.live;
        plane = subst IsPlane (sym same) before.plane.plane;
      };
      maximal = subst IsMaximal (sym same) before.maximal;
    }

-- the owners that have planes differ from a new one
differ_from_new :
    (old mid : Pool) (owners : List ℕ) (owner tiles : ℕ) → All (λ other. HasStrips old other) owners → AddsOwner old mid owner tiles
    → All (λ other. other ≢ owner) owners
differ_from_new old mid owners owner tiles strips added k d within =
    apart_from_new old owner (get_or owners k d) added.unused (strips k d within).plane.live

-- so all have planes again
pub HasStrips-added :
    (old mid new : Pool) (owners : List ℕ) (owner tiles : ℕ) → All (λ other. HasStrips old other) owners → AddsOwner old mid owner tiles
    → ChangesOnly mid new owner → HasStrips new owner → All (λ other. HasStrips new other) (owners ++ owner ∷ [])
HasStrips-added old mid new owners owner tiles strips added changed is_plane =
    let differ = differ_from_new old mid owners owner tiles strips added in
    All-push (λ other. HasStrips new other) owners owner
    (λ k d within. HasStrips-kept old mid new owner (get_or owners k d) tiles added changed (differ k d within) (strips k d within))
    is_plane

-- and all have the same reserve
pub rooms-added :
    (old mid new : Pool) (owners : List ℕ) (owner tiles : ℕ) → All (λ other. HasStrips old other) owners → All (λ other. room_of old other ≡ Some tiles) owners
    → AddsOwner old mid owner tiles → ChangesOnly mid new owner → All (λ other. room_of new other ≡ Some tiles) (owners ++ owner ∷ [])
rooms-added old mid new owners owner tiles strips rooms added changed =
    let differ = differ_from_new old mid owners owner tiles strips added in
    All-push (λ other. room_of new other ≡ Some tiles) owners owner
    (λ k d within. room_of-kept old mid new owner (get_or owners k d) tiles added changed (differ k d within) ∙ rooms k d within)
    (ap (λ rooms. slice_index_or rooms owner None) changed.rooms ∙ added.room)
