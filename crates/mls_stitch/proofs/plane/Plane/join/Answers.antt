-- Both blocks as one take their place.
use Rattle.mls_stitch.proofs.Common.{tiles_of, block_at}
use Rattle.mls_stitch.proofs.CutBlocks.{TakePlace-join}
use Rattle.mls_stitch.proofs.ShownTiles.{KeysDiffer-tiles_of}
use Rattle.mls_stitch.proofs.SplitCalls.{Joins-call, read-joined}
use Rattle.mls_stitch.proofs.plane.Plane.join.Goals as goal

pub joined-whole-requires : goal.joined-whole-requires
joined-whole-requires c =
    let joins =
    read-joined c.args.axis (tiles_of c.args.pool.now c.args.self.now) c.args.first c.args.second c.laid.result c.laid-2.result c.unwrap-before.result c.unwrap-behind.result
    (rw c.self.view_is at c.laid.ensures) c.unwrap-before.ensures (rw c.self.view_is at c.laid-2.ensures) c.unwrap-behind.ensures c.requires.whole_side in
    joins.join

pub replace-requires-clause-pieces : goal.replace-requires-clause-pieces
replace-requires-clause-pieces c =
    let tiles = tiles_of c.args.pool.now c.args.self.now in
    let joins =
    read-joined c.args.axis tiles c.args.first c.args.second c.laid.result c.laid-2.result c.unwrap-before.result c.unwrap-behind.result
    (rw c.self.view_is at c.laid.ensures) c.unwrap-before.ensures (rw c.self.view_is at c.laid-2.ensures) c.unwrap-behind.ensures c.requires.whole_side in
    rw (c.of.ensures.touched, c.of.ensures.fresh, c.joined-whole.ensures) (TakePlace-join (block_at tiles) c.args.axis c.args.first c.args.second c.unwrap-before.result.piece c.unwrap-behind.result.piece c.requires.plane.plane.tiling joins)

pub returns-clause-joined : goal.returns-clause-joined
returns-clause-joined c =
    let tiles = tiles_of c.args.pool.now c.args.self.now in
    let joins =
    read-joined c.args.axis tiles c.args.first c.args.second c.laid.result c.laid-2.result c.unwrap-before.result c.unwrap-behind.result
    (rw c.self.view_is at c.laid.ensures) c.unwrap-before.ensures (rw c.self.view_is at c.laid-2.ensures) c.unwrap-behind.ensures c.requires.whole_side in
    Joins-call tiles (tiles_of c.replace.new.pool c.args.self.now) c.args.axis c.args.first c.args.second c.unwrap-before.result.piece c.unwrap-behind.result.piece c.joined-whole.result
    c.joined-whole.ensures c.requires.plane.plane (KeysDiffer-tiles_of c.args.pool.now c.args.self.now) joins (rw (c.unwrap.ensures, c.of.ensures.touched, c.of.ensures.fresh) at c.replace.ensures.replaced)
