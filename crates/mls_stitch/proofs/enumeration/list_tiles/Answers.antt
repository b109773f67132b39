-- Each listed tile's children are listed.
use Rattle.std.proofs.Common.{◌≡◌, subst, arith, vec_len}
use Rattle.mls_stitch.proofs.Common.{world, tiles_of, IsListedTo, block_at}
use Rattle.mls_stitch.proofs.enumeration.list_tiles.Goals as goal

pub returns-clause-listed : goal.returns-clause-listed
returns-clause-listed c =
    let all : c.tiles.index ≡ vec_len c.tiles.list = omega (arith, c.tiles-test.false, c.tiles.invariant.within, c.len.ensures) in
    subst (λ index. IsListedTo (block_at (tiles_of c.args.pool.now c.args.owner.now)) c.args.area c.tiles.list.items index world.top) all c.tiles.invariant.listed
