-- what is left beside the space of the tiles so far
use Rattle.std.proofs.Common.{◌≡◌, ◌+◌, take, sum_by}
use Rattle.mls_errorplane.proofs.Common.{size_of, space_size}
use Rattle.mls_errorplane.proofs.shown_marks.without_space.Given as goal

abbrev pub invariant-loop-tile : goal.invariant-loop-tile
invariant-loop-tile l = l.rest + sum_by (space_size l.fn.rect) (take l.tile-index l.tiles) ≡ size_of l.fn.rect
