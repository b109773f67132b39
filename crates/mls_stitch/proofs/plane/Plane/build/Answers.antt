-- The tiles are laid with no stitch and then stitched as the strips' blocks.
use Rattle.std.proofs.Common.{[], length, refl, ap, arith}
use Rattle.mls_stitch.proofs.Common.{fresh_at}
use Rattle.mls_stitch.proofs.BuiltPlanes.{AwaitStitches-built, IsBuilt-stitched}
use Rattle.mls_stitch.proofs.Laying.{IsOwner-ChangesOnly, Lays-long}
use Rattle.mls_stitch.proofs.PoolChanges.{ChangesOnly-trans}
use Rattle.mls_stitch.proofs.ShownTiles.{KeysDiffer-tiles_of}
use Rattle.mls_stitch.proofs.plane.Plane.build.Goals as goal

pub stitch_from-requires-clause-waits : goal.stitch_from-requires-clause-waits
stitch_from-requires-clause-waits c =
    let laid = rw (c.requires.empty, c.clear.ensures.items) at c.place_all.ensures.laid in
    let entries = c.place_all.new.entries.items in
    (fresh_at entries, [], entries, refl, refl, AwaitStitches-built c.args.pieces.now entries c.requires.strips laid)

pub stitch_from-requires-clause-room : goal.stitch_from-requires-clause-room
stitch_from-requires-clause-room c =
    omega (
      arith,
      Lays-long c.place_all.ensures.laid,
      ap length c.clear.ensures.items,
      c.place_all.new.entries.ok.0,
      c.requires.scratch,
      ap (λ s. s.room) c.scratch.view_is,
      c.scratch.invariant.1,
    )

pub returns-clause-plane : goal.returns-clause-plane
returns-clause-plane c =
    let laid = rw (c.requires.empty, c.clear.ensures.items) at c.place_all.ensures.laid in
    let differ = KeysDiffer-tiles_of c.stitch_from.new.pool c.args.owner in
    record {
      live = IsOwner-ChangesOnly c.args.owner (ChangesOnly-trans c.place_all.ensures.only c.stitch_from.ensures.only) c.requires.live;
      plane = (IsBuilt-stitched c.args.pieces.now c.place_all.new.entries.items c.place_all.new.entries.items c.requires.strips laid refl differ (λ blocks. c.stitch_from.ensures.stitched blocks [] c.place_all.new.entries.items refl refl)).plane;
    }

pub returns-clause-picture : goal.returns-clause-picture
returns-clause-picture c =
    (IsBuilt-stitched c.args.pieces.now c.place_all.new.entries.items c.place_all.new.entries.items c.requires.strips (rw (c.requires.empty, c.clear.ensures.items) at c.place_all.ensures.laid)
    refl (KeysDiffer-tiles_of c.stitch_from.new.pool c.args.owner) (λ blocks. c.stitch_from.ensures.stitched blocks [] c.place_all.new.entries.items refl refl)).picture

pub returns-clause-maximal : goal.returns-clause-maximal
returns-clause-maximal c =
    (IsBuilt-stitched c.args.pieces.now c.place_all.new.entries.items c.place_all.new.entries.items c.requires.strips (rw (c.requires.empty, c.clear.ensures.items) at c.place_all.ensures.laid)
    refl (KeysDiffer-tiles_of c.stitch_from.new.pool c.args.owner) (λ blocks. c.stitch_from.ensures.stitched blocks [] c.place_all.new.entries.items refl refl)).maximal
