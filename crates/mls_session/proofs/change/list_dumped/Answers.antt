-- Each turn makes a piece for a tile that isn't space.
use Rattle.std.proofs.Common.{◌≡◌, ◌≢◌, ◌==◌, ℕ, Bool, true, false, not, to_z, of_z, w32, ap, subst, sym, ◌∙◌, arith, take_all}
use Rattle.std.proofs.lemmas.Bool.Decides.{nat_tests}
use Rattle.std.proofs.lemmas.Int.{to_z-of_z}
use Rattle.mls_session.specs.Common.{AreInArea, block_at, moved_picture, shown, tiles_of, world}
use Rattle.mls_stitch.proofs.ShownTiles.{KeysDiffer-tiles_of}
use Rattle.mls_session.proofs.MovedTiles.{dumps, dumps-space, few-dumped, holds-moved, kind-dumps, legal_there, moved_rect-some, overlaid-dumps}
use Rattle.mls_session.proofs.TilePieces.{ArePatches, ArePatches-left, ArePatches-made}
use Rattle.mls_session.proofs.change.list_dumped.Goals as goal
use Rattle.mls_session.proofs.change.list_dumped.Goals.{then-ne, else-ne}

painted : (kind : ℕ) (differs : Bool) → differs ≡ not (kind == 0) → differs ≡ true → kind ≢ 0
painted kind differs is holds = grind (arith, nat_tests)

space : (kind : ℕ) (differs : Bool) → differs ≡ not (kind == 0) → differs ≡ false → kind ≡ 0
space kind differs is fails = grind (arith, nat_tests)

pub unwrap-rect-requires : goal.unwrap-rect-requires
unwrap-rect-requires c =
    let tiles = tiles_of c.args.pool.now c.args.cell.now in
    let items = c.tiles-tile-items.result.now in
    let found = subst (AreInArea (block_at tiles) world) (sym c.tiles-tile-items.ensures) c.strips_of.ensures.found in
    let along = c.ranges.dx in
    let up = c.ranges.dy in
    let moved_picture = simp to_z-of_z at c.moved_rect.ensures in
    rw moved_picture (moved_rect-some tiles items c.requires.cell.strips.plane.plane (KeysDiffer-tiles_of c.args.pool.now c.args.cell.now) found c.args.dx c.args.dy c.tile-item.result
    (c.loop-tile.tile-index, c.loop-tile-test.true, sym c.tile-item.is) (painted c.tile-item.result.piece.kind c.ne.result c.ne.ensures c.if-ne.true) c.requires.stays)

pub push_reserved-requires : goal.push_reserved-requires
push_reserved-requires c =
    let (few, all) = few-dumped c.args.pool.now c.args.cell.now c.strips_of.new.scratch.tiles c.tiles-tile-items.result.now (to_z w32 (of_z w32 c.args.dx)) (to_z w32 (of_z w32 c.args.dy)) c.loop-tile.tile-index c.loop-tile.pieces.items c.strips_of.ensures.strips c.tiles-tile-items.ensures c.loop-tile.invariant.patches in
    omega (arith, few, all, c.requires.cell.few, c.requires.cell_pieces_fit, c.loop-tile-test.true, c.loop-tile.invariant.room, c.loop-tile.pieces.ok.0)

pub loop-tile-preserved : goal.loop-tile-preserved
loop-tile-preserved c =
    let pool = c.args.pool.now in
    let owner = c.args.cell.now in
    let tiles = tiles_of pool owner in
    let dx = to_z w32 (of_z w32 c.args.dx) in
    let dy = to_z w32 (of_z w32 c.args.dy) in
    let items = c.tiles-tile-items.result.now in
    let i = c.loop-tile.tile-index in
    let tile = c.tile-item.result in
    let so_far = c.loop-tile.invariant in
    let over = moved_picture (shown tiles) dx dy in
    let found = subst (AreInArea (block_at tiles) world) (sym c.tiles-tile-items.ensures) c.strips_of.ensures.found in
    let plane = c.requires.cell.strips.plane.plane in
    let differ = KeysDiffer-tiles_of pool owner in
    elim c.if-ne.branch [
      | then-ne w ↦
          let made = w.push_reserved.ensures in
          record {
            patches =
                ArePatches-made (dumps dx dy) over items i tile c.loop-tile.pieces.items c.if-ne.pieces.items
                (record { rect = w.unwrap-rect.result; kind = tile.piece.kind }) c.loop-tile-test.true c.tile-item.is so_far.patches (rw w.pieces-is made.items)
                (holds-moved dx dy tile w.unwrap-rect.result (legal_there tiles items plane differ found tile (i, c.loop-tile-test.true, sym c.tile-item.is))
                (sym w.moved_rect.ensures ∙ w.unwrap-rect.ensures) (painted tile.piece.kind c.ne.result c.ne.ensures w.if-ne.true))
                (λ x y covered. kind-dumps tiles items plane differ found dx dy tile x y (i, c.loop-tile-test.true, sym c.tile-item.is) covered);
            room = rw w.pieces-is (made.capacity ∙ so_far.room);
          }
      | else-ne w ↦ record {
        patches =
            ArePatches-left (dumps dx dy) over items i tile c.loop-tile.pieces.items c.if-ne.pieces.items c.loop-tile-test.true c.tile-item.is so_far.patches
            (ap (λ v. v.items) w.pieces-is) (dumps-space dx dy tile (space tile.piece.kind c.ne.result c.ne.ensures w.if-ne.false));
        room = rw w.pieces-is so_far.room;
      }
    ]

pub returns-clause-picture : goal.returns-clause-picture
returns-clause-picture c = λ below.
    let pool = c.args.pool.now in
    let owner = c.args.cell.now in
    let tiles = tiles_of pool owner in
    let items = c.tiles-tile-items.result.now in
    let found = subst (AreInArea (block_at tiles) world) (sym c.tiles-tile-items.ensures) c.strips_of.ensures.found in
    let pieces = c.loop-tile.pieces.items in
    let along = c.ranges.dx in
    let up = c.ranges.dy in
    let so_far = simp to_z-of_z at c.loop-tile.invariant.patches in
    let patches =
    subst (λ list. ArePatches (dumps c.args.dx c.args.dy) (moved_picture (shown tiles) c.args.dx c.args.dy) list pieces) (take_all c.loop-tile.tile-index items c.loop-tile-test.false) so_far in
    overlaid-dumps tiles items c.requires.cell.strips.plane.plane (KeysDiffer-tiles_of pool owner) found c.args.dx c.args.dy pieces below patches

pub returns-clause-few : goal.returns-clause-few
returns-clause-few c =
    let (few, all) = few-dumped c.args.pool.now c.args.cell.now c.strips_of.new.scratch.tiles c.tiles-tile-items.result.now (to_z w32 (of_z w32 c.args.dx)) (to_z w32 (of_z w32 c.args.dy)) c.loop-tile.tile-index c.loop-tile.pieces.items c.strips_of.ensures.strips c.tiles-tile-items.ensures c.loop-tile.invariant.patches in
    omega (arith, few, all, c.requires.cell.few)
