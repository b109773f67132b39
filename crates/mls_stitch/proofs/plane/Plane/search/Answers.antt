-- Once all parents are passed, the tiles of the area are listed.
use Rattle.std.proofs.Common.{subst}
use Rattle.mls_stitch.proofs.Common.{world, tiles_of, IsListedTo, block_at}
use Rattle.mls_stitch.proofs.Listings.{MeetArea-listed}
use Rattle.mls_stitch.proofs.plane.Plane.search.Goals as goal

pub returns-clause-found : goal.returns-clause-found
returns-clause-found c =
    let blocks = block_at (tiles_of c.args.pool.now c.args.self.now) in
    let list = c.list_tiles.new.list in
    let listed = subst (λ n. IsListedTo blocks c.args.area list.items n world.top) list.ok.0 (rw c.self.view_is at c.list_tiles.ensures.listed) in
    (MeetArea-listed blocks c.args.area c.requires.plane.plane.tiling c.list_tiles.ensures.legal list.items listed, listed.once)
