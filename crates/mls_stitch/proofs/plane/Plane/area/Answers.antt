-- The sorted list is what area search finds.
use Rattle.mls_stitch.proofs.Common.{tiles_of, block_at}
use Rattle.mls_stitch.proofs.FoundTiles.{area_found}
use Rattle.mls_stitch.proofs.plane.Plane.area.Goals as goal

pub returns-clause-found : goal.returns-clause-found
returns-clause-found c =
    area_found (block_at (tiles_of c.args.pool.now c.args.self.now)) c.args.area c.requires.plane.plane.tiling c.search.ensures.legal c.search.new.list.items c.sort_rows.new.list.items
    c.search.ensures.found.0 c.search.ensures.found.1 c.sort_rows.ensures.same c.sort_rows.ensures.sorted
