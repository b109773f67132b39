-- Each turn makes a piece for a tile of these types.
use Rattle.std.proofs.Common.{length, refl, ap, subst, sym, ◌∙◌, arith, vec_capacity, take_all}
use Rattle.mls_session.specs.Common.{AreInArea, block_at, empty_picture, room_of, tiles_of}
use Rattle.mls_stitch.proofs.ShownTiles.{KeysDiffer-tiles_of}
use Rattle.mls_errorplane.proofs.CarriedMarks.{fewer_than_room, length-found, within_room}
use Rattle.mls_session.proofs.ErasedTiles.{clipped-there, erases, erases-other, holds-clipped, overlaid-erases}
use Rattle.mls_session.proofs.TilePieces.{ArePatches, ArePatches-left, ArePatches-made, few-ArePatches}
use Rattle.mls_session.proofs.change.list_erased.Goals as goal
use Rattle.mls_session.proofs.change.list_erased.Goals.{then-contains, else-contains}

pub push_reserved-requires : goal.push_reserved-requires
push_reserved-requires c =
    let pool = c.args.pool.now in
    let owner = c.args.plane.now in
    let items = c.tiles-tile-items.result.now in
    let i = c.loop-tile.tile-index in
    let few = few-ArePatches (erases c.args.rect c.args.kinds) empty_picture items i c.loop-tile.pieces.items c.loop-tile.invariant.patches in
    let found = length-found pool owner c.args.rect items (subst (AreInArea (block_at (tiles_of pool owner)) c.args.rect) (sym c.tiles-tile-items.ensures) c.find_area.ensures.found) in
    let within = rw c.owner.ensures at c.count-count.ensures in
    let fits = within_room (room_of pool owner) c.count-count.result (vec_capacity c.args.pieces.now) c.requires.strips.plane.live within.within c.requires.pieces_fit in
    omega (arith, few, found, fits, within.value, c.loop-tile-test.true, c.loop-tile.invariant.room, c.loop-tile.pieces.ok.0)

pub unwrap-part-requires : goal.unwrap-part-requires
unwrap-part-requires c =
    let tiles = tiles_of c.args.pool.now c.args.plane.now in
    let items = c.tiles-tile-items.result.now in
    let found = subst (AreInArea (block_at tiles) c.args.rect) (sym c.tiles-tile-items.ensures) c.find_area.ensures.found in
    clipped-there (block_at tiles) c.args.rect items c.loop-tile.tile-index c.tile-item.result c.clip.result found c.loop-tile-test.true c.tile-item.is c.clip.ensures.value

pub loop-tile-preserved : goal.loop-tile-preserved
loop-tile-preserved c =
    let items = c.tiles-tile-items.result.now in
    let i = c.loop-tile.tile-index in
    let tile = c.tile-item.result in
    let so_far = c.loop-tile.invariant in
    elim c.if-contains.branch [
      | then-contains w ↦
          let made = w.push_reserved.ensures in
          record {
            patches =
                ArePatches-made (erases c.args.rect c.args.kinds) empty_picture items i tile c.loop-tile.pieces.items c.if-contains.pieces.items
                (record { rect = w.unwrap-part.result; kind = 0 }) c.loop-tile-test.true c.tile-item.is so_far.patches (rw w.pieces-is made.items)
                (holds-clipped c.args.rect c.args.kinds tile w.clip.result w.unwrap-part.result w.unwrap-part.ensures w.clip.ensures.some (sym w.if-contains.ensures))
                (λ x y covered. refl);
            room = rw w.pieces-is (made.capacity ∙ so_far.room);
          }
      | else-contains w ↦ record {
        patches =
            ArePatches-left (erases c.args.rect c.args.kinds) empty_picture items i tile c.loop-tile.pieces.items c.if-contains.pieces.items c.loop-tile-test.true c.tile-item.is
            so_far.patches (ap (λ v. v.items) w.pieces-is) (erases-other c.args.rect c.args.kinds tile (sym w.if-contains.ensures));
        room = rw w.pieces-is so_far.room;
      }
    ]

pub returns-clause-picture : goal.returns-clause-picture
returns-clause-picture c =
    let pool = c.args.pool.now in
    let owner = c.args.plane.now in
    let tiles = tiles_of pool owner in
    let items = c.tiles-tile-items.result.now in
    let found = subst (AreInArea (block_at tiles) c.args.rect) (sym c.tiles-tile-items.ensures) c.find_area.ensures.found in
    let pieces = c.loop-tile.pieces.items in
    let patches =
    subst (λ list. ArePatches (erases c.args.rect c.args.kinds) empty_picture list pieces) (take_all c.loop-tile.tile-index items c.loop-tile-test.false) c.loop-tile.invariant.patches in
    overlaid-erases tiles c.args.rect c.args.kinds items pieces c.requires.strips.plane.plane (KeysDiffer-tiles_of pool owner) found patches

pub returns-clause-few : goal.returns-clause-few
returns-clause-few c =
    let pool = c.args.pool.now in
    let owner = c.args.plane.now in
    let items = c.tiles-tile-items.result.now in
    let few = few-ArePatches (erases c.args.rect c.args.kinds) empty_picture items c.loop-tile.tile-index c.loop-tile.pieces.items c.loop-tile.invariant.patches in
    let found = length-found pool owner c.args.rect items (subst (AreInArea (block_at (tiles_of pool owner)) c.args.rect) (sym c.tiles-tile-items.ensures) c.find_area.ensures.found) in
    let within = rw c.owner.ensures at c.count-count.ensures in
    fewer_than_room (room_of pool owner) (length c.loop-tile.pieces.items) c.count-count.result (omega (arith, few, found, within.value)) within.within
