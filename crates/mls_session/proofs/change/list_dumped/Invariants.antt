use Rattle.std.proofs.Common.{◌≡◌, take, vec_capacity}
use Rattle.mls_session.specs.Common.{moved_picture, picture_in}
use Rattle.mls_session.proofs.MovedTiles.{dumps}
use Rattle.mls_session.proofs.TilePieces.{ArePatches}
use Rattle.mls_session.proofs.change.list_dumped.Given as goal

-- the pieces paint the squares of the tiles so far
abbrev pub invariant-loop-tile : goal.invariant-loop-tile
invariant-loop-tile l = record {
  patches : ArePatches (dumps l.dx l.dy) (moved_picture (picture_in l.pool l.cell) l.dx l.dy) (take l.tile-index l.tile-items) l.pieces.items;
  room : vec_capacity l.pieces ≡ vec_capacity l.fn.pieces;
}
