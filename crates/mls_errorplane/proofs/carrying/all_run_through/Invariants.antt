-- the tiles so far begin above the rectangle's rows or have them all
use Rattle.std.proofs.Common.{All, take}
use Rattle.mls_errorplane.specs.Carrying.{RunsThrough}
use Rattle.mls_errorplane.proofs.carrying.all_run_through.Given as goal

abbrev pub invariant-loop-tile : goal.invariant-loop-tile
invariant-loop-tile l = All (λ tile. RunsThrough l.fn.rect tile.piece.rect) (take l.tile-index l.tiles)
