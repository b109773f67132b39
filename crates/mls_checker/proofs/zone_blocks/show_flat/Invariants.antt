-- The tiles show in the blocks so far what the plane does with the uses.
use Rattle.std.proofs.Common.{◌≡◌}
use Rattle.mls_layout.specs.Uses.{HasFlatPlane, flat_plane}
use Rattle.mls_checker.specs.Tiles.{tiles_picture}
use Rattle.mls_checker.proofs.FlatBlocks.{BlocksSame, lines_left}
use Rattle.mls_checker.proofs.zone_blocks.show_flat.Given as goal

abbrev pub invariant-rows : goal.invariant-rows
invariant-rows l = record {
  same : BlocksSame l.fn.at.zone (tiles_picture l.fn.tiles) (flat_plane l.fn.workspace.pool l.fn.uses l.fn.at.number l.fn.plane) l.left l.bottom;
  flat : HasFlatPlane l.workspace.pool l.fn.plane l.fn.uses.library.now;
  pool : l.workspace.pool ≡ l.fn.workspace.pool;
}

abbrev pub decreases-rows : goal.decreases-rows
decreases-rows l = lines_left l.fn.at.zone l.left l.bottom
