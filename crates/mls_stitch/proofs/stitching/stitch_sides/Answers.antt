-- Each iteration sews one more tile to the fresh ones.
use Rattle.std.proofs.Common.{◌≡◌, length, ◌∙◌, arith}
use Rattle.mls_stitch.proofs.PoolChanges.{ChangesOnly-trans}
use Rattle.mls_stitch.proofs.SewnTiles.{ArePartlySewn-more, AreSewn-end}
use Rattle.mls_stitch.proofs.stitching.stitch_sides.Goals as goal

pub loop-tile-preserved : goal.loop-tile-preserved
loop-tile-preserved c =
    let tile = c.tile-item.result in
    let index = c.loop-tile.tile-index in
    let within = c.loop-tile-test.true in
    let so_far = c.loop-tile.invariant in
    record {
      sewn = λ blocks place laid listed.
          let part = so_far.sewn blocks place laid listed in
          ArePartlySewn-more tile part within c.tile-item.is (c.stitch_side.ensures.sewn blocks part.keeps.place (rw (← c.tile-item.is) at (laid index tile within)) listed);
      same = c.stitch_side.ensures.count ∙ so_far.same;
      only = ChangesOnly-trans so_far.only c.stitch_side.ensures.only;
    }

pub returns-clause-sewn : goal.returns-clause-sewn
returns-clause-sewn c = λ blocks place laid listed.
    let whole : c.loop-tile.tile-index ≡ length c.args.tiles.now = omega arith in
    AreSewn-end (rw whole at (c.loop-tile.invariant.sewn blocks place laid listed))
