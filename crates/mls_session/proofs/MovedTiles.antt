-- Dumping a cell's plane: the pieces are its tiles that aren't space, moved, and none leaves the world where no square does.
use Rattle.std.proofs.Common.{◌≡◌, ◌≢◌, Bool, true, false, ℕ, ℤ, pos, negsuc, ◌+ℤ◌, ◌-ℤ◌, ◌==◌, ◌&&◌, not, if◌then◌else◌, Option, Some, None, IsSome, List, length, map, take, min, ◌≤◌, Contains, inl, inr, ne_eqb, refl, sym, ap, ◌∙◌}
use Rattle.std.specs.List.{list_any}
use Rattle.std.proofs.Math.Bool.{and-false, and-true}
use Rattle.std.proofs.Math.Path.{fun_ext}
use Rattle.std.proofs.lemmas.Bool.{and_from, and_parts, cases_Bool}
use Rattle.std.proofs.lemmas.Bool.Decides.{same_from_decides}
use Rattle.std.proofs.lemmas.List.Elements.{All-contains}
use Rattle.std.proofs.lemmas.List.Folds.{Any-from_list_any, list_any-from_Any}
use Rattle.mls_session.proofs.Common.{AreInArea, AreStrips, IsFound, IsPlane, IsRectangleIn, LaidTile, Picture, Piece, Pool, Rect, Tile, block_at, columns, dumped, holds, kind_or_space, leaves_world, moved_picture, moved_rect, overlaid, picture_in, rows, shown, tile_count, tiles_of, world, world_has}
use Rattle.mls_geom.proofs.Holds.{between_holds, holds_between}
use Rattle.mls_geom.proofs.PiecePictures.{holds_outer}
use Rattle.mls_geom.proofs.Squares.{Contains-range_with_len, range_with_len-Contains}
use Rattle.mls_stitch.proofs.ShownTiles.{KeysDiffer, shown-inside, shown-outside}
use Rattle.mls_stitch.proofs.Sides.{legal-AreBlocks}
use Rattle.mls_session.proofs.MovedRects.{IsMoved-moved_rect, holds-IsMoved, holds_at, square-leaves}
use Rattle.mls_session.proofs.FoundTiles.{length-strips}
use Rattle.mls_session.proofs.TilePieces.{ArePatches, few-ArePatches, is_covered}

-- the square is one of the tile's, moved, and isn't space
abbrev pub dumps : ℤ → ℤ → LaidTile → ℕ → ℕ → Bool
dumps dx dy tile x y = holds_at tile.piece.rect (pos x -ℤ dx) (pos y -ℤ dy) && not (tile.piece.kind == 0)

either_way : (b : Bool) (more less : ℕ) → (if not b then more else less) ≡ (if b then less else more)
either_way true more less = refl
either_way false more less = refl

-- ---- a piece for a tile that isn't space
pub holds-moved :
    (dx dy : ℤ) (tile : LaidTile) (moved_picture : Rect) → IsRectangleIn world tile.piece.rect → moved_rect tile.piece.rect dx dy ≡ Some moved_picture → tile.piece.kind ≢ 0
    → (x y : ℕ) → holds moved_picture x y ≡ dumps dx dy tile x y
holds-moved dx dy tile moved_picture legal is some x y =
    let there = holds_at tile.piece.rect (pos x -ℤ dx) (pos y -ℤ dy) in
    holds-IsMoved tile.piece.rect moved_picture dx dy x y (IsMoved-moved_rect tile.piece.rect moved_picture dx dy legal.wide legal.tall is)
    ∙ sym (and-true there) ∙ ap (λ b. there && b) (sym (ap not (ne_eqb tile.piece.kind 0 some)))

pub dumps-space : (dx dy : ℤ) (tile : LaidTile) → tile.piece.kind ≡ 0 → (x y : ℕ) → dumps dx dy tile x y ≡ false
dumps-space dx dy tile space x y =
    let there = holds_at tile.piece.rect (pos x -ℤ dx) (pos y -ℤ dy) in
    ap (λ kind. there && not (kind == 0)) space ∙ and-false there

-- ---- how many pieces
pub few-dumped :
    (pool : Pool) (owner : ℕ) (list items : List LaidTile) (dx dy : ℤ) (i : ℕ) (pieces : List Piece) → AreStrips world (picture_in pool owner) (map (λ tile. tile.piece) list) → items ≡ list
    → ArePatches (dumps dx dy) (moved_picture (shown (tiles_of pool owner)) dx dy) (take i items) pieces
    → (length pieces ≤ min i (length items)) × (length items ≡ tile_count world (picture_in pool owner))
few-dumped pool owner list items dx dy i pieces strips same patches = (
  few-ArePatches (dumps dx dy) (moved_picture (shown (tiles_of pool owner)) dx dy) items i pieces patches,
  ap length same ∙ length-strips pool owner list strips,
)

-- ---- the test for squares that leave the world
-- a square of the world passes it
pub leaves_world-at :
    (picture : Picture) (dx dy : ℤ) (x y : ℕ) → holds world x y ≡ true → (not (picture x y == 0) && not (world_has (pos x +ℤ dx) (pos y +ℤ dy))) ≡ true
    → leaves_world picture dx dy ≡ true
unfolding leaves_world
leaves_world-at picture dx dy x y inside leaves =
    let lines = holds_between world x y inside in
    let (i, row_within, row_is) = Contains-range_with_len world.bottom world.top y lines.2 lines.3 in
    let (j, column_within, column_is) = Contains-range_with_len world.left world.right x lines.0 lines.1 in
    let test : ℕ → ℕ → Bool = λ x y. not (picture x y == 0) && not (world_has (pos x +ℤ dx) (pos y +ℤ dy)) in
    list_any-from_Any (λ y. list_any (λ x. test x y) (columns world)) (rows world)
    (i, y, row_within, row_is, list_any-from_Any (λ x. test x y) (columns world) (j, x, column_within, column_is, leaves))

pub at-leaves_world :
    (picture : Picture) (dx dy : ℤ) → leaves_world picture dx dy ≡ true
    → (x : ℕ) × (y : ℕ) × (holds world x y ≡ true) × ((not (picture x y == 0) && not (world_has (pos x +ℤ dx) (pos y +ℤ dy))) ≡ true)
unfolding leaves_world
at-leaves_world picture dx dy h =
    let test : ℕ → ℕ → Bool = λ x y. not (picture x y == 0) && not (world_has (pos x +ℤ dx) (pos y +ℤ dy)) in
    let (i, y, row_within, row_is, in_row) = Any-from_list_any (λ y. list_any (λ x. test x y) (columns world)) (rows world) h in
    let (j, x, column_within, column_is, leaves) = Any-from_list_any (λ x. test x y) (columns world) in_row in
    let row = range_with_len-Contains world.bottom world.top y (i, row_within, row_is) in
    let column = range_with_len-Contains world.left world.right x (j, column_within, column_is) in
    (x, y, between_holds world x y column.0 column.1 row.0 row.1, leaves)

-- ---- what is painted
module _ (tiles : List (ℕ × Tile)) (list : List LaidTile) (plane : IsPlane tiles) (differ : KeysDiffer tiles) (found : AreInArea (block_at tiles) world list) where
  laid_there : (tile : LaidTile) → Contains list tile → block_at tiles tile.id ≡ Some tile.piece
  laid_there tile there = (All-contains (IsFound (block_at tiles) world) list tile found.each there).laid

  pub shows_there : (tile : LaidTile) (x y : ℕ) → Contains list tile → holds tile.piece.rect x y ≡ true → shown tiles x y ≡ tile.piece.kind
  shows_there tile x y there inside = shown-inside tiles tile.id tile.piece x y plane differ (laid_there tile there) inside

  pub legal_there : (tile : LaidTile) → Contains list tile → IsRectangleIn world tile.piece.rect
  legal_there tile there = legal-AreBlocks (block_at tiles) tile.id tile.piece plane.tiling (laid_there tile there)

  -- a square of the plane that isn't space is in a tile of its kind
  pub tile_there : (x y : ℕ) → not (shown tiles x y == 0) ≡ true → (tile : LaidTile) × Contains list tile × (holds tile.piece.rect x y ≡ true)
  tile_there x y some = elim (cases_Bool (holds world x y)) [
    | inl inside ↦
        let (k, tile, within, is, held) = found.whole x y inside in
        (tile, (k, within, is), held)
    | inr outside ↦ absurd (cc (sym some ∙ ap (λ kind. not (kind == 0)) (shown-outside tiles x y plane differ outside)))
  ]

  -- the pieces show what the plane does, moved
  pub kind-dumps : (dx dy : ℤ) (tile : LaidTile) (x y : ℕ) → Contains list tile → dumps dx dy tile x y ≡ true → tile.piece.kind ≡ moved_picture (shown tiles) dx dy x y
  unfolding moved_picture
  kind-dumps dx dy tile x y there covered =
      at (pos x -ℤ dx) (pos y -ℤ dy) (and_parts (holds_at tile.piece.rect (pos x -ℤ dx) (pos y -ℤ dy)) (not (tile.piece.kind == 0)) covered).0
    where
      at : (zx zy : ℤ) → holds_at tile.piece.rect zx zy ≡ true → tile.piece.kind ≡ kind_or_space (shown tiles) zx zy
      at (pos a) (pos b) inside = sym (shows_there tile a b there inside)
      at (pos a) (negsuc b) inside = absurd (cc inside)
      at (negsuc a) zy inside = absurd (cc inside)

  -- the tiles have the moved squares that aren't space
  some_there : (zx zy : ℤ) → list_any (λ tile. holds_at tile.piece.rect zx zy && not (tile.piece.kind == 0)) list ≡ true → not (kind_or_space (shown tiles) zx zy == 0) ≡ true
  some_there (pos a) (pos b) h =
      let (k, tile, within, is, covered) = Any-from_list_any (λ t. holds t.piece.rect a b && not (t.piece.kind == 0)) list h in
      let at = and_parts (holds tile.piece.rect a b) (not (tile.piece.kind == 0)) covered in
      ap (λ kind. not (kind == 0)) (shows_there tile a b (k, within, is) at.0) ∙ at.1
  some_there (pos a) (negsuc b) h =
      let (k, tile, within, is, covered) = Any-from_list_any (λ (t : LaidTile). false) list h in
      absurd (cc covered)
  some_there (negsuc a) zy h =
      let (k, tile, within, is, covered) = Any-from_list_any (λ (t : LaidTile). false) list h in
      absurd (cc covered)

  there_some : (zx zy : ℤ) → not (kind_or_space (shown tiles) zx zy == 0) ≡ true → list_any (λ tile. holds_at tile.piece.rect zx zy && not (tile.piece.kind == 0)) list ≡ true
  there_some (pos a) (pos b) some =
      let (tile, there, inside) = tile_there a b some in
      list_any-from_Any (λ t. holds t.piece.rect a b && not (t.piece.kind == 0)) list
      (there.0, tile, there.1, there.2, and_from (holds tile.piece.rect a b) (not (tile.piece.kind == 0)) inside (ap (λ kind. not (kind == 0)) (sym (shows_there tile a b there inside)) ∙ some))
  there_some (pos a) (negsuc b) some = absurd (cc some)
  there_some (negsuc a) zy some = absurd (cc some)

  is_covered-dumps : (dx dy : ℤ) (x y : ℕ) → is_covered (dumps dx dy) list x y ≡ not (moved_picture (shown tiles) dx dy x y == 0)
  unfolding moved_picture
  is_covered-dumps dx dy x y =
      let zx = pos x -ℤ dx in
      let zy = pos y -ℤ dy in
      same_from_decides {P = not (kind_or_space (shown tiles) zx zy == 0) ≡ true} (is_covered (dumps dx dy) list x y) (not (kind_or_space (shown tiles) zx zy == 0))
      (some_there zx zy, there_some zx zy) (λ h. h, λ h. h)

  pub overlaid-dumps :
      (dx dy : ℤ) (pieces : List Piece) (below : Picture) → ArePatches (dumps dx dy) (moved_picture (shown tiles) dx dy) list pieces
      → overlaid below pieces ≡ dumped below (shown tiles) dx dy
  overlaid-dumps dx dy pieces below patches =
      patches.paint below
      ∙ fun_ext (λ x. fun_ext (λ y.
      let over = moved_picture (shown tiles) dx dy x y in
      ap (λ covered. if covered then over else below x y) (is_covered-dumps dx dy x y) ∙ either_way (over == 0) over (below x y)))

  -- ---- what leaves the world
  pub leaves_world-lost :
      (dx dy : ℤ) (tile : LaidTile) → Contains list tile → tile.piece.kind ≢ 0 → moved_rect tile.piece.rect dx dy ≡ None → leaves_world (shown tiles) dx dy ≡ true
  leaves_world-lost dx dy tile there some none =
      let legal = legal_there tile there in
      let (x, y, inside, out) = square-leaves tile.piece.rect dx dy legal.wide legal.tall none in
      let kind = shows_there tile x y there inside in
      let is_some : not (shown tiles x y == 0) ≡ true = ap (λ k. not (k == 0)) kind ∙ ap not (ne_eqb tile.piece.kind 0 some) in
      leaves_world-at (shown tiles) dx dy x y (holds_outer world tile.piece.rect x y legal inside) (and_from _ _ is_some (ap not out))

  pub moved_rect-some :
      (dx dy : ℤ) (tile : LaidTile) → Contains list tile → tile.piece.kind ≢ 0 → leaves_world (shown tiles) dx dy ≡ false → IsSome (moved_rect tile.piece.rect dx dy)
  moved_rect-some dx dy tile there some stays = by (moved_rect tile.piece.rect dx dy) refl
    where
      by : (after : Option Rect) → moved_rect tile.piece.rect dx dy ≡ after → IsSome after
      by None lost = absurd (cc (sym stays ∙ leaves_world-lost dx dy tile there some lost))
      by (Some r) kept = refl
