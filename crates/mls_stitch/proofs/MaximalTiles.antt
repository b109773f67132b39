-- Planes whose tiles are maximal strips.
use Rattle.std.proofs.Common.{◌≡◌, ◌≢◌, ℕ, true, Some, List, get_or, All, Any, AllPairs, Contains, sym, ap, subst, le_refl, arith}
use Rattle.mls_stitch.proofs.Common.{All-contains, AreUnorderedStrips, Rect, IsRectangleIn, holds, empty_picture, picture_of, IsStrip, world, Piece, between_holds, overlaid_agreed, holds_outer, space_outside, Tile, IsMaximal, IsPlane, block_at, blocks_of, shown}
use Rattle.mls_stitch.proofs.Sides.{legal-AreBlocks, one_block}
use Rattle.mls_stitch.proofs.ShownTiles.{KeysDiffer, All-blocks_of, Contains-blocks_of, apart-blocks_of, legal-blocks_of, shown_same, whole-blocks_of}

-- a rectangle has its lower-left square
pub holds_corner : (extent e : Rect) → IsRectangleIn extent e → holds e e.left e.bottom ≡ true
holds_corner extent e legal = between_holds e e.left e.bottom (le_refl e.left) legal.wide (le_refl e.bottom) legal.tall

-- no block is listed twice
pub once-blocks_of : (tiles : List (ℕ × Tile)) → IsPlane tiles → KeysDiffer tiles → AllPairs (λ p q. p ≢ q) (blocks_of tiles)
once-blocks_of tiles plane differ = λ i j d before within same.
    let p = get_or (blocks_of tiles) i d in
    let q = get_or (blocks_of tiles) j d in
    let corner = holds_corner world p.rect (legal-blocks_of tiles plane differ i d (omega arith)) in
    apart-blocks_of tiles plane differ i j d before within (record { x = p.rect.left; y = p.rect.bottom }) corner
    (subst (λ r. holds r.rect p.rect.left p.rect.bottom ≡ true) same corner)

-- tiles are maximal where each is a strip
pub IsMaximal-each :
    (tiles : List (ℕ × Tile)) → IsPlane tiles → KeysDiffer tiles → ((key : ℕ) (block : Piece) → block_at tiles key ≡ Some block → IsStrip world (shown tiles) block) → IsMaximal tiles
IsMaximal-each tiles plane differ each = record {
  each = All-blocks_of (IsStrip world (shown tiles)) tiles differ each;
  whole = λ x y inside. whole-blocks_of tiles x y plane inside;
  once = once-blocks_of tiles plane differ;
}

-- where pieces cover the world and each is a tile's block, each tile's block is one of them
pub piece_there :
    (tiles : List (ℕ × Tile)) (pieces : List Piece) → IsPlane tiles → All (λ piece. (key : ℕ) × (block_at tiles key ≡ Some piece)) pieces
    → ((x y : ℕ) → holds world x y ≡ true → Any (λ piece. holds piece.rect x y ≡ true) pieces) → (key : ℕ) (block : Piece) → block_at tiles key ≡ Some block → Contains pieces block
piece_there tiles pieces plane laid whole key block here =
    let legal = legal-AreBlocks (block_at tiles) key block plane.tiling here in
    let corner = holds_corner world block.rect legal in
    let found = whole block.rect.left block.rect.bottom (holds_outer world block.rect block.rect.left block.rect.bottom legal corner) in
    let piece = found.1 in
    let there = All-contains (λ p. (key : ℕ) × (block_at tiles key ≡ Some p)) pieces piece laid (found.0, found.2, found.3) in
    subst (Contains pieces) (one_block (block_at tiles) there.0 key piece block block.rect.left block.rect.bottom plane.tiling there.1 here found.4 corner) (found.0, found.2, found.3)

-- and the tiles show what the pieces do
pub shown-pieces :
    (tiles : List (ℕ × Tile)) (pieces : List Piece) → IsPlane tiles → KeysDiffer tiles → All (λ piece. (key : ℕ) × (block_at tiles key ≡ Some piece)) pieces
    → ((x y : ℕ) → holds world x y ≡ true → Any (λ piece. holds piece.rect x y ≡ true) pieces) → shown tiles ≡ picture_of pieces
shown-pieces tiles pieces plane differ laid whole =
    shown_same tiles (picture_of pieces) plane differ
    (λ key block x y here inside.
    overlaid_agreed empty_picture pieces x y block.kind
    (λ k d within in_piece.
    let there = laid k d within in
    ap (λ r. r.kind) (one_block (block_at tiles) there.0 key (get_or pieces k d) block x y plane.tiling there.1 here in_piece inside))
    (let legal = legal-AreBlocks (block_at tiles) key block plane.tiling here in whole x y (holds_outer world block.rect x y legal inside)))
    (λ x y outside.
    space_outside world pieces x y
    (λ k d within.
    let there = laid k d within in
    legal-AreBlocks (block_at tiles) there.0 (get_or pieces k d) plane.tiling there.1)
    outside)

-- tiles laid as the strips of a picture show it, and are maximal
pub shown-strips :
    (tiles : List (ℕ × Tile)) (pieces : List Piece) → IsPlane tiles → KeysDiffer tiles → All (λ piece. (key : ℕ) × (block_at tiles key ≡ Some piece)) pieces
    → AreUnorderedStrips world (picture_of pieces) pieces → shown tiles ≡ picture_of pieces
shown-strips tiles pieces plane differ laid strips = shown-pieces tiles pieces plane differ laid strips.whole

pub IsMaximal-strips :
    (tiles : List (ℕ × Tile)) (pieces : List Piece) → IsPlane tiles → KeysDiffer tiles → All (λ piece. (key : ℕ) × (block_at tiles key ≡ Some piece)) pieces
    → AreUnorderedStrips world (picture_of pieces) pieces → IsMaximal tiles
IsMaximal-strips tiles pieces plane differ laid strips =
    IsMaximal-each tiles plane differ
    (λ key block here.
    subst (λ picture. IsStrip world picture block) (sym (shown-strips tiles pieces plane differ laid strips))
    (All-contains (IsStrip world (picture_of pieces)) pieces block strips.each (piece_there tiles pieces plane laid strips.whole key block here)))

-- under each key of a maximal plane is a strip
pub strip-IsMaximal : (tiles : List (ℕ × Tile)) (key : ℕ) (block : Piece) → IsMaximal tiles → block_at tiles key ≡ Some block → IsStrip world (shown tiles) block
strip-IsMaximal tiles key block maximal here = All-contains (IsStrip world (shown tiles)) (blocks_of tiles) block maximal.each (Contains-blocks_of tiles key block here)
