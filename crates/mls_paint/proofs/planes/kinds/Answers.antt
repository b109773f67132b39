use Rattle.std.proofs.Common.{ap, ◌∙◌}
use Rattle.std.proofs.lemmas.List.{take_all}
use Rattle.mls_tilepool.specs.Pools.{tiles_of}
use Rattle.mls_stitch.proofs.ShownTiles.{KeysDiffer-tiles_of}
use Rattle.mls_paint.proofs.AreaKinds.{kinds_of, kinds_of-found, kinds_of_more}
use Rattle.mls_paint.proofs.planes.kinds.Goals as goal

pub loop-tile-preserved : goal.loop-tile-preserved
loop-tile-preserved c =
    kinds_of_more c.tiles-tile-items.result.now c.loop-tile.tile-index c.loop-tile.kinds _ c.tile-item.result c.loop-tile-test.true c.tile-item.is c.loop-tile.invariant c.insert.ensures.set

pub returns-clause-kinds : goal.returns-clause-kinds
returns-clause-kinds c =
    let pool = c.args.pool.now in
    let owner = c.args.plane.now in
    c.loop-tile.invariant ∙ ap kinds_of (take_all c.loop-tile.tile-index c.tiles-tile-items.result.now c.loop-tile-test.false ∙ c.tiles-tile-items.ensures)
    ∙ kinds_of-found (tiles_of pool owner) c.args.rect c.find_area.new.scratch.tiles c.requires.plane.plane (KeysDiffer-tiles_of pool owner) c.find_area.ensures.found
