-- the marked squares of the tiles so far, and what is left beside these and the space among them
use Rattle.std.proofs.Common.{◌≡◌, ◌+◌, take, sum_by}
use Rattle.mls_geom.specs.Rects.{size_of}
use Rattle.mls_errorplane.specs.PaintedMarks.{marked_part, space_size}
use Rattle.mls_errorplane.proofs.marks.count_tiles.Given as goal

abbrev pub invariant-loop-tile : goal.invariant-loop-tile
invariant-loop-tile l = record {
  marked : l.count ≡ sum_by (marked_part l.fn.rect) (take l.tile-index l.tiles);
  left : l.rest + l.count + sum_by (space_size l.fn.rect) (take l.tile-index l.tiles) ≡ size_of l.fn.rect;
}
