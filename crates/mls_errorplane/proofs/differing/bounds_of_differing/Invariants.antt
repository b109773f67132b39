-- beside the bounds the tiles so far show the marks
use Rattle.std.proofs.Common.{All, take}
use Rattle.mls_errorplane.proofs.Common.{IsWithin, ShowsBeside, marks}
use Rattle.mls_errorplane.proofs.differing.bounds_of_differing.Given as goal

abbrev pub invariant-loop-tile : goal.invariant-loop-tile
invariant-loop-tile l = record {
  within : IsWithin l.fn.found.rect l.bounds;
  beside : All (ShowsBeside l.fn.found.rect l.bounds (marks l.fn.found)) (take l.tile-index l.tiles);
}
