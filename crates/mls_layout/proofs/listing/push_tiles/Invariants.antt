use Rattle.std.proofs.Common.{◌≡◌, ◌≢◌, ◌≤◌, ℕ, true, if◌then◌else◌, length, take, vec_capacity}
use Rattle.std.specs.List.{All}
use Rattle.mls_geom.specs.Locality.{laid, uncovered}
use Rattle.mls_geom.specs.Pictures.{Picture}
use Rattle.mls_geom.specs.Rects.{IsRectangleIn, holds}
use Rattle.mls_layout.specs.Grids.{Shows}
use Rattle.mls_layout.specs.Moves.{moved_picture}
use Rattle.mls_layout.proofs.PaintedTiles.{some_dumps}
use Rattle.mls_layout.proofs.listing.push_tiles.Given as goal

-- the parts of the tiles so far that aren't space are laid over the pieces before them
abbrev pub invariant-loop-tile : goal.invariant-loop-tile
invariant-loop-tile l = record {
  shown :
      (picture : Picture) → All (λ tile. Shows picture tile.piece) l.tiles → (x y : ℕ) → holds l.rect x y ≡ true
      → laid l.pieces.items x y ≡ (if some_dumps (take l.tile-index l.tiles) l.dx l.dy x y then moved_picture picture l.dx l.dy x y else laid l.fn.pieces.items x y);
  inside : All (λ piece. IsRectangleIn l.rect piece.rect) l.fn.pieces.items → All (λ piece. IsRectangleIn l.rect piece.rect) l.pieces.items;
  covered : (x y : ℕ) → laid l.fn.pieces.items x y ≢ uncovered → laid l.pieces.items x y ≢ uncovered;
  few : length l.pieces.items ≤ l.most;
  room : vec_capacity l.pieces ≡ vec_capacity l.fn.pieces;
}
