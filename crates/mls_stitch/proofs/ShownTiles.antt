-- What a plane of tiles shows.
use Rattle.std.proofs.Common.{◌≡◌, ◌≢◌, ℕ, ◌<◌, true, false, Option, Some, None, List, [], ◌∷◌, get_or, All, Any, AllPairs, Contains, ⊎_elim, refl, sym, ap, ◌∙◌, subst, arith}
use Rattle.mls_stitch.proofs.Common.{option_map, cases_Bool, cond-true, cond-false, eq-eqb, ne_eqb, All-cons, All-contains, All-map, IsRectangleIn, holds, Picture, empty_picture, world, AreLegal, Piece, AllPairs-first, AllPairs-rest, AllPairs-map, Contains-map, Agrees, overlaid_agreed, space_outside, Pool, tile_in, tiles_of, Tile, AreDisjoint, IsPlane, block_at, block_of, blocks_of, shown}
use Rattle.std.proofs.Math.Path.{fun_ext}
use Rattle.mls_tilepool.proofs.TileLists.{tile_in_contains, tiles_of-ascend}
use Rattle.mls_stitch.proofs.Sides.{HoldsAt-block, legal-AreBlocks, one_block, there-IsSomeAnd}

-- no key stands twice
abbrev pub KeysDiffer : List (ℕ × Tile) → Type 0
KeysDiffer tiles = AllPairs (λ a b. a.0 ≢ b.0) tiles

pub KeysDiffer-ascending : (tiles : List (ℕ × Tile)) → AllPairs (λ a b. a.0 < b.0) tiles → KeysDiffer tiles
KeysDiffer-ascending tiles up = λ i j d before within same. omega (arith, up i j d before within, same)

-- so it is with the tiles of an owner
pub KeysDiffer-tiles_of : (pool : Pool) (owner : ℕ) → KeysDiffer (tiles_of pool owner)
KeysDiffer-tiles_of pool owner = KeysDiffer-ascending (tiles_of pool owner) (tiles_of-ascend pool owner)

-- each tile stands under its key
pub found-KeysDiffer : (tiles : List (ℕ × Tile)) → KeysDiffer tiles → All (λ e. tile_in tiles e.0 ≡ Some e.1) tiles
found-KeysDiffer [] differ = λ k d within. absurd (omega arith)
found-KeysDiffer (entry ∷ rest) differ =
    let first = AllPairs-first (λ a b. a.0 ≢ b.0) entry rest differ in
    let later = found-KeysDiffer rest (AllPairs-rest (λ a b. a.0 ≢ b.0) entry rest differ) in
    All-cons (λ e. tile_in (entry ∷ rest) e.0 ≡ Some e.1) entry rest (cond-true _ _ _ (eq-eqb entry.0 entry.0 refl))
    (λ k d within. cond-false _ _ _ (ne_eqb entry.0 (get_or rest k d).0 (first k d within)) ∙ later k d within)

-- and so does its block
pub block_at-KeysDiffer : (tiles : List (ℕ × Tile)) → KeysDiffer tiles → All (λ e. block_at tiles e.0 ≡ Some (block_of tiles e.1)) tiles
block_at-KeysDiffer tiles differ = λ k d within. ap (option_map (block_of tiles)) (found-KeysDiffer tiles differ k d within)

made_from : {X Y : Type 0} (f : X → Y) (o : Option X) (y : Y) → option_map f o ≡ Some y → (x : X) × (o ≡ Some x) × (f x ≡ y)
made_from f None y made = cc
made_from f (Some x) y made = (x, refl, cc)

-- the tile of a block
pub tile-block_at : (tiles : List (ℕ × Tile)) (key : ℕ) (block : Piece) → block_at tiles key ≡ Some block → (tile : Tile) × (tile_in tiles key ≡ Some tile) × (block_of tiles tile ≡ block)
tile-block_at tiles key block here = made_from (block_of tiles) (tile_in tiles key) block here

-- what holds of the block under each key holds of each in the list
pub All-blocks_of :
    (P : Piece → Type 0) (tiles : List (ℕ × Tile)) → KeysDiffer tiles → ((key : ℕ) (block : Piece) → block_at tiles key ≡ Some block → P block) → All P (blocks_of tiles)
All-blocks_of P tiles differ each =
    All-map P (λ e. block_of tiles e.1) tiles (λ k d within. each (get_or tiles k d).0 (block_of tiles (get_or tiles k d).1) (block_at-KeysDiffer tiles differ k d within))

-- the block under a key is in the list, and each of the list is under a key
pub Contains-blocks_of : (tiles : List (ℕ × Tile)) (key : ℕ) (block : Piece) → block_at tiles key ≡ Some block → Contains (blocks_of tiles) block
Contains-blocks_of tiles key block here =
    let made = tile-block_at tiles key block here in
    subst (Contains (blocks_of tiles)) made.2 (Contains-map (λ e. block_of tiles e.1) tiles (key, made.0) (tile_in_contains tiles key made.0 made.1))

pub key-blocks_of : (tiles : List (ℕ × Tile)) (block : Piece) → KeysDiffer tiles → Contains (blocks_of tiles) block → (key : ℕ) × (block_at tiles key ≡ Some block)
key-blocks_of tiles block differ listed =
    All-contains (λ b. (key : ℕ) × (block_at tiles key ≡ Some b)) (blocks_of tiles) block
    (All-blocks_of (λ b. (key : ℕ) × (block_at tiles key ≡ Some b)) tiles differ (λ key b here. (key, here))) listed

Any-blocks_of :
    (tiles : List (ℕ × Tile)) (key : ℕ) (block : Piece) (x y : ℕ) → block_at tiles key ≡ Some block → holds block.rect x y ≡ true → Any (λ piece. holds piece.rect x y ≡ true) (blocks_of tiles)
Any-blocks_of tiles key block x y here inside =
    let listed = Contains-blocks_of tiles key block here in
    (listed.0, block, listed.1, listed.2, inside)

-- a square of the world is in the block under some key
pub block_with : (tiles : List (ℕ × Tile)) (x y : ℕ) → IsPlane tiles → holds world x y ≡ true → (key : ℕ) × (block : Piece) × (block_at tiles key ≡ Some block) × (holds block.rect x y ≡ true)
block_with tiles x y plane inside =
    let held = plane.tiling.whole (record { x = x; y = y }) inside in
    let found = there-IsSomeAnd (block_at tiles held.0) (λ b. holds b.rect x y ≡ true) held.1 in
    (held.0, found.0, found.1, found.2)

-- the listed blocks are rectangles of the world, cover it, and are apart
pub legal-blocks_of : (tiles : List (ℕ × Tile)) → IsPlane tiles → KeysDiffer tiles → AreLegal (blocks_of tiles)
legal-blocks_of tiles plane differ =
    All-blocks_of (λ piece. IsRectangleIn world piece.rect) tiles differ (λ key block here. legal-AreBlocks (block_at tiles) key block plane.tiling here)

pub whole-blocks_of : (tiles : List (ℕ × Tile)) (x y : ℕ) → IsPlane tiles → holds world x y ≡ true → Any (λ piece. holds piece.rect x y ≡ true) (blocks_of tiles)
whole-blocks_of tiles x y plane inside =
    let found = block_with tiles x y plane inside in
    Any-blocks_of tiles found.0 found.1 x y found.2 found.3

pub apart-blocks_of : (tiles : List (ℕ × Tile)) → IsPlane tiles → KeysDiffer tiles → AllPairs AreDisjoint (blocks_of tiles)
apart-blocks_of tiles plane differ =
    AllPairs-map AreDisjoint (λ e. block_of tiles e.1) tiles
    (λ i j d before within at in_p in_q.
    let p = get_or tiles i d in
    let q = get_or tiles j d in
    let each = block_at-KeysDiffer tiles differ in
    differ i j d before within
    (plane.tiling.apart p.0 q.0 at (HoldsAt-block (block_at tiles) p.0 (block_of tiles p.1) at (each i d (omega arith)) in_p)
    (HoldsAt-block (block_at tiles) q.0 (block_of tiles q.1) at (each j d within) in_q)))

-- the squares of a tile show its kind
pub shown-inside :
    (tiles : List (ℕ × Tile)) (key : ℕ) (block : Piece) (x y : ℕ) → IsPlane tiles → KeysDiffer tiles → block_at tiles key ≡ Some block → holds block.rect x y ≡ true
    → shown tiles x y ≡ block.kind
shown-inside tiles key block x y plane differ here inside =
    overlaid_agreed empty_picture (blocks_of tiles) x y block.kind
    (All-blocks_of (Agrees x y block.kind) tiles differ
    (λ other q there in_q. ap (λ r. r.kind) (one_block (block_at tiles) other key q block x y plane.tiling there here in_q inside)))
    (Any-blocks_of tiles key block x y here inside)

-- and outside the world there is space
pub shown-outside : (tiles : List (ℕ × Tile)) (x y : ℕ) → IsPlane tiles → KeysDiffer tiles → holds world x y ≡ false → shown tiles x y ≡ 0
shown-outside tiles x y plane differ outside = space_outside world (blocks_of tiles) x y (legal-blocks_of tiles plane differ) outside

-- tiles show the picture in which each tile's squares have its kind
pub shown_same :
    (tiles : List (ℕ × Tile)) (picture : Picture) → IsPlane tiles → KeysDiffer tiles
    → ((key : ℕ) (block : Piece) (x y : ℕ) → block_at tiles key ≡ Some block → holds block.rect x y ≡ true → picture x y ≡ block.kind)
    → ((x y : ℕ) → holds world x y ≡ false → picture x y ≡ 0) → shown tiles ≡ picture
shown_same tiles picture plane differ each empty = fun_ext (λ x. fun_ext (λ y. ⊎_elim
    (λ inside.
    let found = block_with tiles x y plane inside in
    shown-inside tiles found.0 found.1 x y plane differ found.2 found.3 ∙ sym (each found.0 found.1 x y found.2 found.3))
    (λ outside. shown-outside tiles x y plane differ outside ∙ sym (empty x y outside)) (cases_Bool (holds world x y))))
