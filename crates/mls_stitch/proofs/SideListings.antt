-- The tiles on the left side of an area, from the bottom up.
use Rattle.std.proofs.Common.{◌≡◌, ◌≢◌, ℕ, ◌<◌, ◌≤◌, true, List, [], ◌∷◌, ◌++◌, length, get_or, Option, All, inl, inr, ap, arith}
use Rattle.mls_stitch.proofs.Common.{cases_lt, length_push, All-push, Rect, IsRectangleIn, holds, world, Piece, holds_between, between_holds, IsFound, IsSideListedTo, AreBlocks, IsPlane, block_at, IsLaidAt, LaidTile, Tile}
use Rattle.std.proofs.lemmas.List.Quantifiers.{Any-push, all_pairs_push}
use Rattle.mls_stitch.proofs.ListedTiles.{length-le-AreLaid}
use Rattle.mls_stitch.proofs.Listings.{any_push, found_with, same_tile}

module _ (blocks : ℕ → Option Piece) (area : Rect) (list : List LaidTile) (line : ℕ) (tiling : AreBlocks blocks) (inside : IsRectangleIn world area) (listed : IsSideListedTo blocks area list line) where
  -- a tile at the line is none of those below it
  not_below : (tile : LaidTile) → IsLaidAt blocks (record { x = area.left; y = line }) tile → All (λ p. p.id ≢ tile.id) list
  not_below tile is k d within same =
      let other = get_or list k d in
      let one : other ≡ tile = same_tile blocks other tile (listed.each k d within).laid is.laid same in
      let lines = holds_between tile.piece.rect area.left line is.held in
      omega (arith, listed.below k d within, ap (λ (t : LaidTile). t.piece.rect.top) one, lines.3)

  -- the tile that has the side's square at the line goes on the list
  pub side_push : (tile : LaidTile) → area.bottom ≤ line → line < area.top → IsLaidAt blocks (record { x = area.left; y = line }) tile → IsSideListedTo blocks area (list ++ tile ∷ []) tile.piece.rect.top
  side_push tile low high is =
      let square : holds area area.left line ≡ true = between_holds area area.left line (omega arith) inside.wide low high in
      let lines = holds_between tile.piece.rect area.left line is.held in
      record {
        each = All-push (IsFound blocks area) list tile listed.each (found_with blocks area tiling inside tile area.left line square is);
        once = all_pairs_push (λ p q. p.id ≢ q.id) list tile listed.once (not_below tile is);
        on_side = λ y above below.
            elim (cases_lt y line) [
              | inl before ↦ any_push (λ t. holds t.piece.rect area.left y ≡ true) list tile (listed.on_side y above before)
              | inr after ↦
                  Any-push (λ t. holds t.piece.rect area.left y ≡ true) list tile (between_holds tile.piece.rect area.left y lines.0 lines.1 (omega (arith, lines.2, after)) below)
            ];
        at_side = All-push (λ t. t.piece.rect.left ≤ area.left) list tile listed.at_side lines.0;
        below = All-push (λ t. t.piece.rect.top ≤ tile.piece.rect.top) list tile (λ k d within. omega (arith, listed.below k d within, lines.3)) (omega arith);
      }

-- there is room for the next tile
pub side_fits :
    (tiles : List (ℕ × Tile)) (area : Rect) (list : List LaidTile) (line : ℕ) (tile : LaidTile) → IsPlane tiles → IsRectangleIn world area → IsSideListedTo (block_at tiles) area list line
    → area.bottom ≤ line → line < area.top → IsLaidAt (block_at tiles) (record { x = area.left; y = line }) tile → length list < length tiles
side_fits tiles area list line tile plane inside listed low high is =
    let longer = side_push (block_at tiles) area list line plane.tiling inside listed tile low high is in
    omega (arith, length_push list tile, length-le-AreLaid tiles (list ++ tile ∷ []) (λ k d within. (longer.each k d within).laid) longer.once)
