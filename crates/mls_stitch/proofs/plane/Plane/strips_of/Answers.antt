-- An area search over the world finds all tiles.
use Rattle.std.proofs.Common.{subst}
use Rattle.mls_stitch.proofs.Common.{world, tiles_of, AreInArea, IsListedTo, block_at}
use Rattle.mls_stitch.proofs.FoundTiles.{area_found}
use Rattle.mls_stitch.proofs.ListedTiles.{length-AreInArea, picture-AreInArea, strips-AreInArea}
use Rattle.mls_stitch.proofs.Listings.{MeetArea-listed}
use Rattle.mls_stitch.proofs.ShownTiles.{KeysDiffer-tiles_of}
use Rattle.mls_stitch.proofs.plane.Plane.strips_of.Goals as goal

-- the sorted list is what area search finds
found : (c : goal.After-sort_rows) → AreInArea (block_at (tiles_of c.args.pool.now c.args.self.now)) world c.sort_rows.new.list.items
found c =
    let blocks = block_at (tiles_of c.args.pool.now c.args.self.now) in
    let tiling = c.requires.plane.plane.tiling in
    let area = c.world-world.result in
    let legal = c.list_tiles.ensures.legal in
    let list = c.list_tiles.new.list in
    let listed = subst (λ n. IsListedTo blocks area list.items n world.top) list.ok.0 (rw c.self.view_is at c.list_tiles.ensures.listed) in
    subst (λ area. AreInArea blocks area c.sort_rows.new.list.items) c.world-world.ensures
    (area_found blocks area tiling legal list.items c.sort_rows.new.list.items (MeetArea-listed blocks area tiling legal list.items listed) listed.once c.sort_rows.ensures.same c.sort_rows.ensures.sorted)

pub returns-clause-found : goal.returns-clause-found
returns-clause-found c = found c

pub returns-clause-picture : goal.returns-clause-picture
returns-clause-picture c =
    picture-AreInArea (tiles_of c.args.pool.now c.args.self.now) c.sort_rows.new.list.items c.requires.plane.plane (KeysDiffer-tiles_of c.args.pool.now c.args.self.now) (found c)

pub returns-clause-strips : goal.returns-clause-strips
returns-clause-strips c = strips-AreInArea (tiles_of c.args.pool.now c.args.self.now) c.sort_rows.new.list.items c.requires.plane.plane (found c)

pub returns-clause-count : goal.returns-clause-count
returns-clause-count c =
    length-AreInArea (tiles_of c.args.pool.now c.args.self.now) c.sort_rows.new.list.items c.requires.plane.plane (KeysDiffer-tiles_of c.args.pool.now c.args.self.now) (found c)
