-- The grid has the tiles so far.
use Rattle.std.proofs.Common.{All, take}
use Rattle.mls_layout.specs.Grids.{grid_picture}
use Rattle.mls_checker.specs.FlatZones.{HasTileIn}
use Rattle.mls_checker.proofs.zone_blocks.has_tiles.Given as goal

abbrev pub invariant-loop-tile : goal.invariant-loop-tile
invariant-loop-tile l = All (HasTileIn l.fn.block (grid_picture l.fn.grid l.fn.block)) (take l.tile-index l.fn.tiles)
