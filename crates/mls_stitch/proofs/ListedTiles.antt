-- Lists of laid tiles that have each square of the world.
use Rattle.std.proofs.Common.{◌≡◌, ◌≢◌, ℕ, ◌≤◌, max, true, IsTrue, nat_lt, ◌==◌, ◌&&◌, ◌||◌, Option, Some, List, map, length, get_or, All, Any, AllPairs, Contains, sym, ap, ◌∙◌, subst, arith}
use Rattle.mls_stitch.proofs.Common.{nat_tests, length-map, All-contains, All-map, same_Some, Rect, Point, holds, picture_of, AreStrips, IsStrip, comes_before, world, Piece, AllPairs-map, Contains-map, holds_outer, Tile, AreInArea, IsMaximal, IsPlane, block_at, block_of, shown, LaidTile}
use Rattle.mls_tilepool.proofs.TileLists.{tile_in_contains}
use Rattle.mls_stitch.proofs.DistinctNumbers.{length-le-AllPairs}
use Rattle.mls_stitch.proofs.MaximalTiles.{holds_corner, shown-pieces, strip-IsMaximal}
use Rattle.mls_stitch.proofs.ShownTiles.{KeysDiffer, block_at-KeysDiffer, tile-block_at}
use Rattle.mls_stitch.proofs.Sides.{HoldsAt-block, legal-AreBlocks, one_block}

-- each tile of the list is laid as its block
abbrev pub AreLaid : List (ℕ × Tile) → List LaidTile → Type 0
AreLaid tiles list = All (λ tile. block_at tiles tile.id ≡ Some tile.piece) list

-- each square of the world is in a tile of the list
abbrev pub CoverWorld : List LaidTile → Type 0
CoverWorld list = (x y : ℕ) → holds world x y ≡ true → Any (λ tile. holds tile.piece.rect x y ≡ true) list

-- laid tiles under different keys are at most as many as all
pub length-le-AreLaid : (tiles : List (ℕ × Tile)) (list : List LaidTile) → AreLaid tiles list → AllPairs (λ p q. p.id ≢ q.id) list → length list ≤ length tiles
length-le-AreLaid tiles list laid differ =
    let ids = map (λ (tile : LaidTile). tile.id) list in
    let keys = map (λ (entry : ℕ × Tile). entry.0) tiles in
    let there : All (Contains keys) ids =
    All-map (Contains keys) (λ tile. tile.id) list
    (λ k d within.
    let tile = get_or list k d in
    let made = tile-block_at tiles tile.id tile.piece (laid k d within) in
    Contains-map (λ entry. entry.0) tiles (tile.id, made.0) (tile_in_contains tiles tile.id made.0 made.1)) in
    omega (arith, length-le-AllPairs ids keys (AllPairs-map (λ a b. a ≢ b) (λ tile. tile.id) list differ) there, length-map list (λ (tile : LaidTile). tile.id), length-map tiles (λ (entry : ℕ × Tile). entry.0))

-- where laid tiles cover the world, each tile of the plane is one of them
pub listed_there :
    (tiles : List (ℕ × Tile)) (list : List LaidTile) (key : ℕ) (block : Piece) → IsPlane tiles → AreLaid tiles list → CoverWorld list → block_at tiles key ≡ Some block
    → (tile : LaidTile) × Contains list tile × (tile.id ≡ key) × (tile.piece ≡ block)
listed_there tiles list key block plane laid whole here =
    let legal = legal-AreBlocks (block_at tiles) key block plane.tiling here in
    let left = block.rect.left in
    let bottom = block.rect.bottom in
    let corner = holds_corner world block.rect legal in
    let found = whole left bottom (holds_outer world block.rect left bottom legal corner) in
    let tile = found.1 in
    let listed : Contains list tile = (found.0, found.2, found.3) in
    let there = All-contains (λ t. block_at tiles t.id ≡ Some t.piece) list tile laid listed in
    let at : Point = record { x = left; y = bottom } in
    let held = HoldsAt-block (block_at tiles) tile.id tile.piece at there found.4 in
    let held_here = HoldsAt-block (block_at tiles) key block at here corner in
    (tile, listed, plane.tiling.apart tile.id key at held held_here, one_block (block_at tiles) tile.id key tile.piece block left bottom plane.tiling there here found.4 corner)

-- so they are as many as all
pub length-CoverWorld :
    (tiles : List (ℕ × Tile)) (list : List LaidTile) → IsPlane tiles → KeysDiffer tiles → AreLaid tiles list → AllPairs (λ p q. p.id ≢ q.id) list → CoverWorld list
    → length list ≡ length tiles
length-CoverWorld tiles list plane keys_differ laid differ whole =
    let ids = map (λ (tile : LaidTile). tile.id) list in
    let keys = map (λ (entry : ℕ × Tile). entry.0) tiles in
    let there : All (Contains ids) keys =
    All-map (Contains ids) (λ entry. entry.0) tiles
    (λ k d within.
    let entry = get_or tiles k d in
    let listed = listed_there tiles list entry.0 (block_of tiles entry.1) plane laid whole (block_at-KeysDiffer tiles keys_differ k d within) in
    subst (Contains ids) listed.2 (Contains-map (λ tile. tile.id) list listed.0 listed.1)) in
    omega (
      arith,
      length-le-AreLaid tiles list laid differ,
      length-le-AllPairs keys ids (AllPairs-map (λ a b. a ≢ b) (λ entry. entry.0) tiles keys_differ) there,
      length-map list (λ (tile : LaidTile). tile.id),
      length-map tiles (λ (entry : ℕ × Tile). entry.0),
    )

-- nothing comes before itself
not_first : (low p q left right : ℕ) → p ≡ q → left ≡ right → (nat_lt (max p low) (max q low) || (max p low == max q low && nat_lt left right)) ≡ true → ⊥
not_first low p q left right same level first = grind (arith, nat_tests)

-- from the area's bottom up, the order is that of strips
first_before :
    (low p q left right : ℕ) → low ≤ p → low ≤ q → (nat_lt (max p low) (max q low) || (max p low == max q low && nat_lt left right)) ≡ true
    → (nat_lt p q || (p == q && nat_lt left right)) ≡ true
first_before low p q left right above over first = grind (arith, nat_tests)

-- tiles in the order of an area search have different keys
pub keys-AreInArea : (blocks : ℕ → Option Piece) (area : Rect) (list : List LaidTile) → AreInArea blocks area list → AllPairs (λ p q. p.id ≢ q.id) list
keys-AreInArea blocks area list found = λ i j d before within same.
    let p = get_or list i d in
    let q = get_or list j d in
    let alike : p.piece ≡ q.piece = same_Some p.piece q.piece (sym (found.each i d (omega arith)).laid ∙ ap blocks same ∙ (found.each j d within).laid) in
    not_first area.bottom p.piece.rect.bottom q.piece.rect.bottom p.piece.rect.left q.piece.rect.left (ap (λ r. r.rect.bottom) alike) (ap (λ r. r.rect.left) alike)
    (found.ordered i j d before within)

laid-AreInArea : (tiles : List (ℕ × Tile)) (area : Rect) (list : List LaidTile) → AreInArea (block_at tiles) area list → AreLaid tiles list
laid-AreInArea tiles area list found = λ k d within. (found.each k d within).laid

-- the tiles of the whole world are all
pub length-AreInArea : (tiles : List (ℕ × Tile)) (list : List LaidTile) → IsPlane tiles → KeysDiffer tiles → AreInArea (block_at tiles) world list → length list ≡ length tiles
length-AreInArea tiles list plane differ found =
    length-CoverWorld tiles list plane differ (laid-AreInArea tiles world list found) (keys-AreInArea (block_at tiles) world list found) found.whole

whole_pieces : (list : List LaidTile) → CoverWorld list → (x y : ℕ) → holds world x y ≡ true → Any (λ piece. holds piece.rect x y ≡ true) (map (λ tile. tile.piece) list)
whole_pieces list whole x y inside =
    let found = whole x y inside in
    let listed = Contains-map (λ (tile : LaidTile). tile.piece) list found.1 (found.0, found.2, found.3) in
    (listed.0, found.1.piece, listed.1, listed.2, found.4)

-- their pieces show what the plane does
pub picture-AreInArea :
    (tiles : List (ℕ × Tile)) (list : List LaidTile) → IsPlane tiles → KeysDiffer tiles → AreInArea (block_at tiles) world list
    → picture_of (map (λ tile. tile.piece) list) ≡ shown tiles
picture-AreInArea tiles list plane differ found =
    sym (shown-pieces tiles (map (λ tile. tile.piece) list) plane differ
    (All-map (λ piece. (key : ℕ) × (block_at tiles key ≡ Some piece)) (λ tile. tile.piece) list (λ k d within. ((get_or list k d).id, (found.each k d within).laid)))
    (whole_pieces list found.whole))

-- and where the tiles are maximal, they are its strips in order
pub strips-AreInArea :
    (tiles : List (ℕ × Tile)) (list : List LaidTile) → IsPlane tiles → AreInArea (block_at tiles) world list → IsMaximal tiles
    → AreStrips world (shown tiles) (map (λ tile. tile.piece) list)
strips-AreInArea tiles list plane found maximal = record {
  each =
      All-map (IsStrip world (shown tiles)) (λ tile. tile.piece) list
      (λ k d within. strip-IsMaximal tiles (get_or list k d).id (get_or list k d).piece maximal (found.each k d within).laid);
  whole = whole_pieces list found.whole;
  ordered =
      AllPairs-map (λ p q. IsTrue (comes_before p q)) (λ tile. tile.piece) list
      (λ i j d before within.
      let p = get_or list i d in
      let q = get_or list j d in
      let legal_p = legal-AreBlocks (block_at tiles) p.id p.piece plane.tiling (found.each i d (omega arith)).laid in
      let legal_q = legal-AreBlocks (block_at tiles) q.id q.piece plane.tiling (found.each j d within).laid in
      first_before world.bottom p.piece.rect.bottom q.piece.rect.bottom p.piece.rect.left q.piece.rect.left legal_p.bottom_in legal_q.bottom_in (found.ordered i j d before within));
}
