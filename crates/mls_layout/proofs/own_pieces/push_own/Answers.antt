use Rattle.std.proofs.Common.{List, ◌++◌, map, ap, ◌∙◌}
use Rattle.std.proofs.lemmas.List.{take_all}
use Rattle.mls_paint.specs.Planes.{picture_in}
use Rattle.mls_stitch.specs.Tilings.{block_at}
use Rattle.mls_stitch.specs.declared.laid_tile.LaidTile.{LaidTile}
use Rattle.mls_tilepool.specs.Pools.{tiles_of}
use Rattle.mls_layout.proofs.CoveredBlocks.{CoverBlock-found, clip}
use Rattle.mls_layout.proofs.FoundTiles.{found-Shows}
use Rattle.mls_layout.proofs.own_pieces.push_own.Goals as goal

pub returns-clause-appended : goal.returns-clause-appended
returns-clause-appended c =
    let tiles = c.find_meeting.new.scratch.tiles in
    let found = c.find_meeting.ensures.found in
    let shows = found-Shows c.args.pool.now c.args.plane.now c.requires.plane c.args.rect tiles found in
    let all = c.loop-tile.invariant
    ∙ ap (λ (list : List LaidTile). c.args.out.now.items ++ map (clip c.args.rect) list)
    (take_all c.loop-tile.tile-index c.tiles-tile-items.result.now c.loop-tile-test.false ∙ c.tiles-tile-items.ensures) in
    (map (clip c.args.rect) tiles, all, CoverBlock-found (block_at (tiles_of c.args.pool.now c.args.plane.now)) c.args.rect (picture_in c.args.pool.now c.args.plane.now) tiles found shows)
