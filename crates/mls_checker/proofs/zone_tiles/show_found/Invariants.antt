-- A picture that has the tiles has those that were compared so far, as far as they lie in the zone.
use Rattle.std.proofs.Common.{take, All}
use Rattle.mls_geom.specs.Pictures.{Picture}
use Rattle.mls_checker.specs.Tiles.{HasTile, clipped_tile}
use Rattle.mls_checker.proofs.zone_tiles.show_found.Given as goal

abbrev pub invariant-loop-index : goal.invariant-loop-index
invariant-loop-index l = (picture : Picture) → All (HasTile picture) l.fn.tiles → All (λ tile. HasTile picture (clipped_tile l.fn.zone tile.piece)) (take l.index l.fn.found)
