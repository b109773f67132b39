use Rattle.std.proofs.Common.{List, subst, sym}
use Rattle.mls_checker.specs.Tiles.{AreTiles, Tile, outer, tiles_picture}
use Rattle.mls_checker.proofs.plane_tiles.PlaneTiles.of_tiles.Goals as goal

pub invariant_of-result : goal.invariant_of-result
invariant_of-result c = record {
  tiles = subst (λ (tiles : List Tile). AreTiles outer (tiles_picture tiles) tiles) (sym c.of_zone-tiles.ensures) c.requires;
  kinds = rw c.as_slice.ensures at c.kinds_of-kinds.ensures;
}
