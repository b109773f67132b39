-- The parts of the tile's block take its place.
use Rattle.mls_stitch.proofs.Common.{tiles_of, block_at}
use Rattle.mls_stitch.proofs.CutBlocks.{TakePlace-cut}
use Rattle.mls_stitch.proofs.ShownTiles.{KeysDiffer-tiles_of}
use Rattle.mls_stitch.proofs.SplitCalls.{Splits-call, read-block}
use Rattle.mls_stitch.proofs.plane.Plane.split.Goals as goal

pub parts-requires : goal.parts-requires
parts-requires c =
    (read-block _ (tiles_of c.args.pool.now c.args.self.now) c.args.tile c.laid.result c.unwrap.result (rw c.self.view_is at c.laid.ensures) c.unwrap.ensures c.requires.inside).1

pub replace-requires-clause-pieces : goal.replace-requires-clause-pieces
replace-requires-clause-pieces c =
    let tiles = tiles_of c.args.pool.now c.args.self.now in
    let (here, inside) =
    read-block _ tiles c.args.tile c.laid.result c.unwrap.result (rw c.self.view_is at c.laid.ensures) c.unwrap.ensures c.requires.inside in
    rw (c.of.ensures.touched, c.of.ensures.fresh, c.parts.ensures) (TakePlace-cut (block_at tiles) c.args.tile c.unwrap.result.piece c.args.axis c.args.at c.requires.plane.plane.tiling here inside)

pub returns-clause-split : goal.returns-clause-split
returns-clause-split c =
    let tiles = tiles_of c.args.pool.now c.args.self.now in
    let (here, inside) =
    read-block _ tiles c.args.tile c.laid.result c.unwrap.result (rw c.self.view_is at c.laid.ensures) c.unwrap.ensures c.requires.inside in
    Splits-call tiles (tiles_of c.replace.new.pool c.args.self.now) c.args.tile c.find.result c.unwrap.result.piece c.parts.result c.args.axis c.args.at c.parts.ensures
    c.requires.plane.plane (KeysDiffer-tiles_of c.args.pool.now c.args.self.now) here inside (rw (c.of.ensures.touched, c.of.ensures.fresh) at c.in_ok-replace.ensures.replaced)
    (rw (c.corner-corner.ensures, c.replace.ensures.plane) at c.find.ensures.holds)
