use Rattle.std.proofs.Common.{◌∙◌, ◌≡◌, ◌∷◌, [], ◌++◌, ◌≤◌, ◌+◌, length, map, take, get_or, refl, sym, ap, subst, arith}
use Rattle.std.specs.Prelude.{Result, Ok, Err}
use Rattle.std.specs.Result.{IsErr, IsOk}
use Rattle.std.proofs.lemmas.List.{map-append, take_more}
use Rattle.mls_geom.specs.Pictures.{picture_of}
use Rattle.mls_tilepool.specs.Pools.{unreserved}
use Rattle.mls_tilepool.proofs.OwnerCalls.{unreserved-same}
use Rattle.mls_paint.specs.Planes.{AddsOwner, HasStrips, picture_in}
use Rattle.mls_library.specs.Inner.{AreBuilt, IsFrozenList}
use Rattle.mls_library.proofs.BuiltPlanes.{AddsOwner-tiles, AreBuilt-push, room_for_next}
use Rattle.mls_library.proofs.LayoutStrips.{some_strip}
use Rattle.mls_library.proofs.library.build_planes.Goals as goal

pub reserve-requires : goal.reserve-requires
reserve-requires c =
    let list = c.strips-item.result in
    let frozen : IsFrozenList list.items =
    subst (λ l. IsFrozenList l.items) (sym c.strips-item.is) (c.requires.strips c.loop-strips.strips-index list (omega (arith, c.loop-strips-test.true)))
    in
    omega (arith, c.len.ensures, some_strip list.items frozen)

-- a reserve that is there is made
IsOk-unless_full : {T E : Type 0} (result : Result T E) → (IsErr result → ⊥) → IsOk result
IsOk-unless_full (Ok x) there = refl
IsOk-unless_full (Err fault) there = absurd (there refl)

pub unwrap-owner-requires : goal.unwrap-owner-requires
unwrap-owner-requires c =
    let fits : length c.strips-item.result.items ≤ unreserved c.loop-strips.pool =
    room_for_next (λ list. list.items) c.args.strips.now c.loop-strips.strips-index c.strips-item.result c.args.pool.now c.loop-strips.pool c.loop-strips.planes.items
    c.loop-strips-test.true c.strips-item.is c.loop-strips.invariant.built c.requires.tiles
    in
    IsOk-unless_full c.reserve.result (λ full. let short = c.reserve.ensures.full.0 full in omega (arith, short, fits, c.len.ensures))

pub build-requires-clause-scratch : goal.build-requires-clause-scratch
build-requires-clause-scratch c =
    let list = c.strips-item.result in
    let fits : length list.items ≤ c.args.scratch.now.room =
    subst (λ l. length l.items ≤ c.args.scratch.now.room) (sym c.strips-item.is) (c.requires.tiles_fit c.loop-strips.strips-index list c.loop-strips-test.true)
    in
    omega (arith, fits, c.loop-strips.invariant.room)

pub loop-strips-preserved : goal.loop-strips-preserved
loop-strips-preserved c =
    let i = c.loop-strips.strips-index in
    let item = c.strips-item.result in
    let list = item.items in
    let old = c.loop-strips.pool in
    let new = c.build.new.pool in
    let owner = c.build.result in
    let planes = c.loop-strips.planes.items in
    let lists = map (λ list. list.items) (take i c.args.strips.now) in
    let so_far = c.loop-strips.invariant in
    let made = rw c.unwrap-owner.ensures at c.reserve.ensures in
    let frozen : IsFrozenList list = subst (λ l. IsFrozenList l.items) (sym c.strips-item.is) (c.requires.strips i item c.loop-strips-test.true) in
    let strips : HasStrips new owner = record { plane = c.build.ensures.plane; maximal = c.build.ensures.maximal } in
    let shows : picture_in new owner ≡ picture_of list = c.build.ensures.picture ∙ ap picture_of c.deref.ensures.value in
    let unnamed : AddsOwner old new c.unwrap-owner.result c.len.result =
    AddsOwner-tiles old c.reserve.new.self new c.unwrap-owner.result c.len.result made.new_owner made.reserves c.build.ensures.only
    in
    let number : c.len.result ≡ length list = c.len.ensures ∙ sym c.deref.ensures.len ∙ ap length c.deref.ensures.value in
    let added : AddsOwner old new owner (length list) =
    subst (AddsOwner old new owner) number (subst (λ o. AddsOwner old new o c.len.result) (sym c.build.ensures.owner) unnamed)
    in
    let taken : unreserved new + length list ≡ unreserved old =
    omega (arith, unreserved-same c.reserve.new.self new c.build.ensures.only.rooms c.build.ensures.only.capacity, made.taken, number)
    in
    let next : map (λ list. list.items) (take (i + 1) c.args.strips.now) ≡ lists ++ list ∷ [] =
    ap (map (λ list. list.items)) (take_more c.args.strips.now i item c.loop-strips-test.true)
    ∙ map-append (λ list. list.items) (take i c.args.strips.now) (get_or c.args.strips.now i item ∷ [])
    ∙ ap (λ l. lists ++ l.items ∷ []) (sym c.strips-item.is)
    in
    record {
      built =
          subst (λ owners. AreBuilt c.args.pool.now new owners (map (λ list. list.items) (take (i + 1) c.args.strips.now))) (sym c.push_reserved.ensures.items)
          (subst (AreBuilt c.args.pool.now new (planes ++ owner ∷ [])) (sym next)
          (AreBuilt-push c.args.pool.now old new planes owner lists list so_far.built added taken strips shows frozen));
      reserved = c.push_reserved.ensures.capacity ∙ so_far.reserved;
      room = c.build.ensures.scratch_room ∙ so_far.room;
    }
