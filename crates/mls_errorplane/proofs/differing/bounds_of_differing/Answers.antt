use Rattle.std.proofs.Common.{List, All, subst, take_all}
use Rattle.mls_errorplane.proofs.Common.{LaidTile, ShowsBeside, marks}
use Rattle.mls_errorplane.proofs.ShownBeside.{beside-next}
use Rattle.mls_errorplane.proofs.differing.bounds_of_differing.Goals as goal

pub loop-tile-preserved : goal.loop-tile-preserved
loop-tile-preserved c = record {
  within = c.with_tile-bounds.ensures.within;
  beside = beside-next c.args.found.now.rect c.loop-tile.bounds c.with_tile-bounds.result (marks c.args.found.now) c.args.tiles.now c.loop-tile.tile-index c.tile-item.result c.loop-tile-test.true
      c.tile-item.is c.with_tile-bounds.ensures.wider c.loop-tile.invariant.beside c.with_tile-bounds.ensures.beside;
}

pub returns-clause-beside : goal.returns-clause-beside
returns-clause-beside c =
    subst (λ (list : List LaidTile). All (ShowsBeside c.args.found.now.rect c.loop-tile.bounds (marks c.args.found.now)) list) (take_all c.loop-tile.tile-index c.args.tiles.now c.loop-tile-test.false)
    c.loop-tile.invariant.beside
