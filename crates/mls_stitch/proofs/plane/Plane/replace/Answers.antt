-- The fresh tiles lie in place of the touched ones, and with those around them wait for their stitches.
use Rattle.std.proofs.Common.{refl, ap, subst, arith}
use Rattle.mls_stitch.proofs.Common.{both_ways, tiles_of, replaced, Replaces, TakePlace, HasPlane, block_at}
use Rattle.mls_stitch.proofs.Laying.{IsOwner-ChangesOnly, Lays-long}
use Rattle.mls_stitch.proofs.PoolChanges.{ChangesOnly-trans}
use Rattle.mls_stitch.proofs.ReplacedPlanes.{AwaitStitches-parted, Replaces-instead, tiles_there, touched_few}
use Rattle.mls_stitch.proofs.ShownTiles.{KeysDiffer-tiles_of}
use Rattle.mls_stitch.proofs.Sides.{IsPlane-AreTiledAs}
use Rattle.mls_stitch.proofs.plane.Plane.replace.Goals as goal

pub returns-then-fresh-unused-clause-no_room : goal.returns-then-fresh-unused-clause-no_room
returns-then-fresh-unused-clause-no_room c =
    let room = rw c.self.view_is at c.room.ensures in
    let count = rw c.self.view_is at c.count.ensures.value in
    (λ _. rw room (omega (arith, c.if-fresh-unused.true, count)), λ _. refl)

pub list_around-requires-clause-there : goal.list_around-requires-clause-there
list_around-requires-clause-there c =
    rw c.self.view_is (tiles_there (tiles_of c.args.pool.now c.args.self.now) c.args.replacement.now.touched.now c.requires.pieces.there)

pub list_around-requires-clause-keys_fit : goal.list_around-requires-clause-keys_fit
list_around-requires-clause-keys_fit c =
    (omega (arith, touched_few (tiles_of c.args.pool.now c.args.self.now) c.args.replacement.now.touched.now c.requires.pieces.there c.requires.pieces.once, c.requires.tiles_fit, ap (λ s. s.room) c.scratch.view_is, c.scratch.invariant.2))

pub place_instead-requires-clause-there : goal.place_instead-requires-clause-there
place_instead-requires-clause-there c =
    rw c.self.view_is (tiles_there (tiles_of c.args.pool.now c.args.self.now) c.args.replacement.now.touched.now c.requires.pieces.there)

pub stitch_from-requires-clause-waits : goal.stitch_from-requires-clause-waits
stitch_from-requires-clause-waits c =
    let owner = c.self.inside.owner in
    let tiles = tiles_of c.args.pool.now owner in
    let touched = c.args.replacement.now.touched.now in
    let fresh = c.args.replacement.now.fresh.now in
    let home : HasPlane c.args.pool.now owner = rw c.self.view_is c.requires.plane in
    let takes : TakePlace (block_at tiles) touched fresh = rw c.self.view_is c.requires.pieces in
    let lays = c.place_instead.ensures.laid in
    let waits =
    AwaitStitches-parted tiles (tiles_of c.place_instead.new.pool owner) touched fresh c.list_around.new.entries.items c.place_instead.new.entries.items home.plane takes lays
    c.list_around.ensures.around c.list_around.new.entries.items lays.laid lays.listed refl in
    (replaced (block_at tiles) touched lays.laid, c.list_around.new.entries.items, lays.laid, lays.listed, omega (arith, c.len-kept.ensures, c.list_around.new.entries.ok.0), waits)

pub stitch_from-requires-clause-room : goal.stitch_from-requires-clause-room
stitch_from-requires-clause-room c =
    omega (
      arith,
      Lays-long c.place_instead.ensures.laid,
      c.requires.pieces_fit,
      ap (λ s. s.room) c.scratch.view_is,
      c.scratch.invariant.1,
      c.list_around.ensures.found_room,
      c.len-kept.ensures,
      c.list_around.new.entries.ok.0,
      c.place_instead.new.entries.ok.0,
    )

pub returns-clause-no_room : goal.returns-clause-no_room
returns-clause-no_room c =
    let room = rw c.self.view_is at c.room.ensures in
    let count = rw c.self.view_is at c.count.ensures.value in
    let within = rw room at (rw c.self.view_is at c.count.ensures.within) in
    (λ e. absurd (both_ways _ refl e), λ less. absurd (let few = rw room at less in omega (arith, few, c.if-fresh-unused.false, count, within)))

pub returns-clause-replaced : goal.returns-clause-replaced
returns-clause-replaced c =
    let owner = c.self.inside.owner in
    let old = c.args.pool.now in
    let new = c.stitch_from.new.pool in
    let tiles = tiles_of old owner in
    let touched = c.args.replacement.now.touched.now in
    let fresh = c.args.replacement.now.fresh.now in
    let home : HasPlane old owner = rw c.self.view_is c.requires.plane in
    let takes : TakePlace (block_at tiles) touched fresh = rw c.self.view_is c.requires.pieces in
    let lays = c.place_instead.ensures.laid in
    let waits =
    AwaitStitches-parted tiles (tiles_of c.place_instead.new.pool owner) touched fresh c.list_around.new.entries.items c.place_instead.new.entries.items home.plane takes lays
    c.list_around.ensures.around c.list_around.new.entries.items lays.laid lays.listed refl in
    let tiled = c.stitch_from.ensures.stitched (replaced (block_at tiles) touched lays.laid) c.list_around.new.entries.items lays.laid lays.listed
    (omega (arith, c.len-kept.ensures, c.list_around.new.entries.ok.0)) waits in
    subst (λ o. Replaces (tiles_of old o) (tiles_of new o) touched fresh) c.self.view_is
    (Replaces-instead tiles (tiles_of c.place_instead.new.pool owner) touched fresh c.list_around.new.entries.items c.place_instead.new.entries.items home.plane takes lays (tiles_of new owner) tiled
    (KeysDiffer-tiles_of old owner) (KeysDiffer-tiles_of new owner) c.stitch_from.ensures.count)

pub returns-clause-home : goal.returns-clause-home
returns-clause-home c =
    let owner = c.self.inside.owner in
    let new = c.stitch_from.new.pool in
    let tiles = tiles_of c.args.pool.now owner in
    let touched = c.args.replacement.now.touched.now in
    let fresh = c.args.replacement.now.fresh.now in
    let lays = c.place_instead.ensures.laid in
    let home : HasPlane c.args.pool.now owner = rw c.self.view_is c.requires.plane in
    let takes : TakePlace (block_at tiles) touched fresh = rw c.self.view_is c.requires.pieces in
    let waits =
    AwaitStitches-parted tiles (tiles_of c.place_instead.new.pool owner) touched fresh c.list_around.new.entries.items c.place_instead.new.entries.items home.plane takes lays
    c.list_around.ensures.around c.list_around.new.entries.items lays.laid lays.listed refl in
    let tiled = c.stitch_from.ensures.stitched (replaced (block_at tiles) touched lays.laid) c.list_around.new.entries.items lays.laid lays.listed
    (omega (arith, c.len-kept.ensures, c.list_around.new.entries.ok.0)) waits in
    let here : HasPlane new owner = record {
      live = IsOwner-ChangesOnly owner (ChangesOnly-trans c.place_instead.ensures.only c.stitch_from.ensures.only) home.live;
      plane = IsPlane-AreTiledAs (tiles_of new owner) (replaced (block_at tiles) touched lays.laid) tiled;
    } in
    subst (HasPlane new) c.self.view_is here
