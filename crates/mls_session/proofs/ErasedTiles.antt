-- Erasing some types of a rectangle: the pieces are the parts in the rectangle of the tiles that an area search finds there.
use Rattle.std.proofs.Common.{◌≡◌, Bool, true, false, ℕ, ◌<◌, ◌&&◌, if◌then◌else◌, Option, Some, None, is_some, IsSome, IfSome, List, length, get_or, sym, ap, ◌∙◌}
use Rattle.std.proofs.Math.Bool.{and-false, and-true}
use Rattle.std.proofs.Math.Path.{fun_ext}
use Rattle.std.proofs.lemmas.Bool.{and_from, and_parts}
use Rattle.std.proofs.lemmas.Bool.Decides.{same_from_decides}
use Rattle.std.proofs.lemmas.List.Elements.{All-contains}
use Rattle.std.proofs.lemmas.List.Folds.{Any-from_list_any, list_any-from_Any}
use Rattle.mls_kinds.specs.KindSets.{has_bit as has_type}
use Rattle.mls_session.proofs.Common.{AreInArea, IsFound, IsPlane, LaidTile, Piece, Rect, Tile, block_at, clipped, common, empty_picture, erased, holds, overlaid, shown}
use Rattle.mls_stitch.proofs.ShownTiles.{KeysDiffer, shown-inside}
use Rattle.mls_session.proofs.TilePieces.{ArePatches, is_covered}

-- the square is the tile's, in the rectangle, and of these types
abbrev pub erases : Rect → ℕ → LaidTile → ℕ → ℕ → Bool
erases e kinds tile x y = holds tile.piece.rect x y && holds e x y && has_type kinds tile.piece.kind

-- ---- a piece for a tile of these types
pub holds-clipped :
    (e : Rect) (kinds : ℕ) (tile : LaidTile) (made : Option Rect) (part : Rect) → made ≡ Some part
    → IfSome made (λ r. (x y : ℕ) → holds r x y ≡ (holds tile.piece.rect x y && holds e x y)) → has_type kinds tile.piece.kind ≡ true
    → (x y : ℕ) → holds part x y ≡ erases e kinds tile x y
holds-clipped e kinds tile made part is squares among x y =
    (rw is at squares) x y ∙ sym (and-true (holds tile.piece.rect x y && holds e x y)) ∙ ap (λ b. holds tile.piece.rect x y && holds e x y && b) (sym among)

pub erases-other : (e : Rect) (kinds : ℕ) (tile : LaidTile) → has_type kinds tile.piece.kind ≡ false → (x y : ℕ) → erases e kinds tile x y ≡ false
erases-other e kinds tile other x y = ap (λ b. holds tile.piece.rect x y && holds e x y && b) other ∙ and-false (holds tile.piece.rect x y && holds e x y)

-- the tile has a square of the rectangle
pub clipped-there : (blocks : ℕ → Option Piece) (e : Rect) (list : List LaidTile) (i : ℕ) (tile : LaidTile) (made : Option Rect) → AreInArea blocks e list → i < length list
    → tile ≡ get_or list i tile → made ≡ clipped tile.piece.rect e → IsSome made
clipped-there blocks e list i tile made found within is cut =
    let there = All-contains (IsFound blocks e) list tile found.each (i, within, sym is) in
    ap is_some (cut ∙ ap (λ b. if b then Some (common tile.piece.rect e) else None) there.met)

-- ---- what all pieces paint
module _ (tiles : List (ℕ × Tile)) (e : Rect) (kinds : ℕ) (list : List LaidTile) (plane : IsPlane tiles) (differ : KeysDiffer tiles) (found : AreInArea (block_at tiles) e list) (x y : ℕ) where
  -- such a square is in the rectangle, and the plane shows its type there
  erased_there : is_covered (erases e kinds) list x y ≡ true → (holds e x y && has_type kinds (shown tiles x y)) ≡ true
  erased_there h =
      let (k, tile, within, is, covered) = Any-from_list_any (λ t. erases e kinds t x y) list h in
      let there = All-contains (IsFound (block_at tiles) e) list tile found.each (k, within, is) in
      let outer = and_parts (holds tile.piece.rect x y && holds e x y) (has_type kinds tile.piece.kind) covered in
      let inner = and_parts (holds tile.piece.rect x y) (holds e x y) outer.0 in
      let shows = shown-inside tiles tile.id tile.piece x y plane differ there.laid inner.0 in
      and_from (holds e x y) (has_type kinds (shown tiles x y)) inner.1 (ap (has_type kinds) shows ∙ outer.1)

  -- and each square of the rectangle is in a tile that was found
  there_erased : (holds e x y && has_type kinds (shown tiles x y)) ≡ true → is_covered (erases e kinds) list x y ≡ true
  there_erased h =
      let outer = and_parts (holds e x y) (has_type kinds (shown tiles x y)) h in
      let (k, tile, within, is, inside) = found.whole x y outer.0 in
      let there = All-contains (IsFound (block_at tiles) e) list tile found.each (k, within, is) in
      let shows = shown-inside tiles tile.id tile.piece x y plane differ there.laid inside in
      list_any-from_Any (λ t. erases e kinds t x y) list (
        k,
        tile,
        within,
        is,
        and_from (holds tile.piece.rect x y && holds e x y) (has_type kinds tile.piece.kind) (and_from (holds tile.piece.rect x y) (holds e x y) inside outer.0)
            (ap (has_type kinds) (sym shows) ∙ outer.1),
      )

  pub is_covered-erases : is_covered (erases e kinds) list x y ≡ (holds e x y && has_type kinds (shown tiles x y))
  is_covered-erases =
      same_from_decides {P = (holds e x y && has_type kinds (shown tiles x y)) ≡ true} (is_covered (erases e kinds) list x y) (holds e x y && has_type kinds (shown tiles x y))
      (erased_there, there_erased) (λ h. h, λ h. h)

-- what such pieces paint
pub overlaid-erases :
    (tiles : List (ℕ × Tile)) (e : Rect) (kinds : ℕ) (list : List LaidTile) (pieces : List Piece) → IsPlane tiles → KeysDiffer tiles → AreInArea (block_at tiles) e list
    → ArePatches (erases e kinds) empty_picture list pieces → overlaid (shown tiles) pieces ≡ erased (shown tiles) e kinds
overlaid-erases tiles e kinds list pieces plane differ found patches =
    patches.paint (shown tiles)
    ∙ fun_ext (λ x. fun_ext (λ y. ap (λ covered. if covered then 0 else shown tiles x y) (is_covered-erases tiles e kinds list plane differ found x y)))
