use Rattle.std.proofs.Common.{◌≡◌, ℕ, true, if◌then◌else◌, take}
use Rattle.std.specs.List.{All}
use Rattle.mls_geom.specs.Pictures.{Picture}
use Rattle.mls_geom.specs.Rects.{holds}
use Rattle.mls_layout.specs.Grids.{Shows, grid_picture}
use Rattle.mls_layout.specs.Moves.{moved_picture}
use Rattle.mls_layout.proofs.PaintedTiles.{some_dumps}
use Rattle.mls_layout.proofs.painting.paint_tiles.Given as goal

-- the squares of the tiles so far that aren't space are painted
abbrev pub invariant-loop-tile : goal.invariant-loop-tile
invariant-loop-tile l =
    (picture : Picture) → All (λ tile. Shows picture tile.piece) l.tiles → (x y : ℕ) → holds l.block x y ≡ true
    → grid_picture l.grid l.block x y ≡ (if some_dumps (take l.tile-index l.tiles) l.dx l.dy x y then moved_picture picture l.dx l.dy x y else grid_picture l.fn.grid l.block x y)
