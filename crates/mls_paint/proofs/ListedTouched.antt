-- The listed tiles have all squares of the pieces, and are those that give way to them.
use Rattle.std.proofs.Common.{◌≡◌, ℕ, true, List, ◌++◌, get_or, All, Option, Some, sym, ap, ◌∙◌, subst, arith}
use Rattle.std.proofs.lemmas.List.Elements.{All-map}
use Rattle.std.proofs.lemmas.List.Folds.{list_any_at}
use Rattle.std.proofs.lemmas.Option.{same_Some}
use Rattle.mls_geom.specs.Locality.{HaveKinds, touches}
use Rattle.mls_geom.specs.Rects.{IsRectangleIn, grown, holds}
use Rattle.mls_geom.specs.World.{AreLegal, world}
use Rattle.mls_geom.specs.declared.piece.Piece.{Piece}
use Rattle.mls_geom.proofs.KindsShown.{meets_by_square}
use Rattle.mls_geom.proofs.PiecePictures.{holds_outer}
use Rattle.mls_stitch.specs.Areas.{ListTouched}
use Rattle.mls_stitch.specs.Tilings.{AreBlocks}
use Rattle.mls_stitch.specs.declared.laid_tile.LaidTile.{LaidTile}
use Rattle.mls_stitch.proofs.CloseSquares.{close_in_grown}
use Rattle.mls_stitch.proofs.FreshStrips.{AreTouched, IsInside, pieces_of}
use Rattle.mls_stitch.proofs.FreshTiles.{entry-keys_of}
use Rattle.mls_stitch.proofs.Sides.{legal-AreBlocks, there-IsSomeAnd}

-- a piece touches a block with which it shares a square
touched_by_square : (piece block : Piece) (x y : ℕ) → holds piece.rect x y ≡ true → holds block.rect x y ≡ true → touches piece.rect block.rect ≡ true
touched_by_square piece block x y in_piece in_block =
    let near = close_in_grown piece.rect (record { x = x; y = y }) (record { x = x; y = y }) (record { left = omega arith; right = omega arith; below = omega arith; above = omega arith }) in_piece in
    meets_by_square (grown 1 piece.rect) block.rect x y near in_block

-- a square of a piece lies in a listed tile
inside_listed :
    (blocks : ℕ → Option Piece) (over : List Piece) (list : List LaidTile) → AreBlocks blocks → ListTouched blocks over list → AreLegal over
    → All (λ piece. (x y : ℕ) → holds piece.rect x y ≡ true → IsInside list x y) over
inside_listed blocks over list tiling listed legal k d within x y here =
    let piece = get_or over k d in
    let (key, held) = tiling.whole (record { x = x; y = y }) (holds_outer world piece.rect x y (legal k d within) here) in
    let (block, is, inside) = there-IsSomeAnd (blocks key) (λ b. holds b.rect x y ≡ true) held in
    let near = list_any_at (λ p. touches p.rect block.rect) over k d within (touched_by_square piece block x y here inside) in
    let (tile, (j, within', is'), is_key) = entry-keys_of list key (listed.whole key block is near) in
    let there : blocks tile.id ≡ Some tile.piece = rw is' at (listed.each j tile within') in
    let same : block ≡ tile.piece = same_Some block tile.piece (sym is ∙ ap blocks (sym is_key) ∙ there) in
    (j, tile, within', is', subst (λ p. holds p.rect x y ≡ true) same inside)

-- so they are touched tiles in which the pieces lie
pub AreTouched-ListTouched :
    (blocks : ℕ → Option Piece) (over : List Piece) (list : List LaidTile) → AreBlocks blocks → ListTouched blocks over list → HaveKinds (pieces_of list ++ over)
    → AreLegal over → AreTouched blocks list over
AreTouched-ListTouched blocks over list tiling listed kinds legal = record {
  each = listed.each;
  once = listed.once;
  legal = All-map (λ piece. IsRectangleIn world piece.rect) (λ tile. tile.piece) list
      (λ k d within. legal-AreBlocks blocks (get_or list k d).id (get_or list k d).piece tiling (listed.each k d within));
  kinds = kinds;
  inside = inside_listed blocks over list tiling listed legal;
}
