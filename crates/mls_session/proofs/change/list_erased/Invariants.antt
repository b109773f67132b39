use Rattle.std.proofs.Common.{◌≡◌, take, vec_capacity}
use Rattle.mls_geom.specs.Pictures.{empty_picture}
use Rattle.mls_session.proofs.ErasedTiles.{erases}
use Rattle.mls_session.proofs.TilePieces.{ArePatches}
use Rattle.mls_session.proofs.change.list_erased.Given as goal

-- the pieces erase the squares of the tiles so far
abbrev pub invariant-loop-tile : goal.invariant-loop-tile
invariant-loop-tile l = record {
  patches : ArePatches (erases l.rect l.kinds) empty_picture (take l.tile-index l.tile-items) l.pieces.items;
  room : vec_capacity l.pieces ≡ vec_capacity l.fn.pieces;
}
