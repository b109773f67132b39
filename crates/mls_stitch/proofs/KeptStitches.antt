-- Stitches of a tile that stays: each leads where it did, unless its square came to another tile.
use Rattle.std.proofs.Common.{◌≡◌, ℕ, true, Option, Some, None, List, Contains, inl, inr, refl, sym, ap, ◌∙◌, subst}
use Rattle.mls_stitch.proofs.Common.{both_ways, same_Some, Point, holds, world, Piece, holds_outer, tile_in, Tile, IsKept, IsKeptUnless, HoldsAt, LeadsTo, beyond, stitch_of, AreBlocks, AreTiledAs, IsPlaced, Stitch}
use Rattle.mls_stitch.proofs.CloseSquares.{same_square}
use Rattle.mls_stitch.proofs.DistinctNumbers.{cases_Contains}
use Rattle.mls_stitch.proofs.Sides.{HoldsAt-block, legal-AreBlocks, placed_block, there-IsSomeAnd}

-- the square of a block is in the world
pub inside-HoldsAt : (blocks : ℕ → Option Piece) (key : ℕ) (at : Point) → AreBlocks blocks → HoldsAt blocks key at → holds world at.x at.y ≡ true
inside-HoldsAt blocks key at tiling held =
    let found = there-IsSomeAnd (blocks key) (λ block. holds block.rect at.x at.y ≡ true) held in
    holds_outer world found.0.rect at.x at.y (legal-AreBlocks blocks key found.0 tiling found.1) found.2

-- stitches to one square lead to one tile
pub LeadsTo-same : (blocks : ℕ → Option Piece) (a b : Option ℕ) (at : Point) → AreBlocks blocks → LeadsTo blocks a at → LeadsTo blocks b at → a ≡ b
LeadsTo-same blocks None None at tiling to_a to_b = refl
LeadsTo-same blocks None (Some b) at tiling to_a to_b = absurd (both_ways _ to_a (inside-HoldsAt blocks b at tiling to_b))
LeadsTo-same blocks (Some a) None at tiling to_a to_b = absurd (both_ways _ to_b (inside-HoldsAt blocks a at tiling to_a))
LeadsTo-same blocks (Some a) (Some b) at tiling to_a to_b = ap Some (tiling.apart a b at to_a to_b)

-- a stitch to a square that its tile keeps, or that lies outside the world, stays
pub kept_stitch :
    (old new : ℕ → Option Piece) (touched : List ℕ) (a b : Option ℕ) (at : Point) → AreBlocks new
    → ((key : ℕ) (block : Piece) → ¬ (Contains touched key) → old key ≡ Some block → new key ≡ Some block) → LeadsTo old a at → LeadsTo new b at → IsKeptUnless touched a b
kept_stitch old new touched None b at tiling kept to_a to_b = inl (LeadsTo-same new b None at tiling to_b to_a)
kept_stitch old new touched (Some a) b at tiling kept to_a to_b = elim (cases_Contains touched a) [
  | inl there ↦ inr (a, refl, there)
  | inr absent ↦
      let found = there-IsSomeAnd (old a) (λ block. holds block.rect at.x at.y ≡ true) to_a in
      inl (LeadsTo-same new b (Some a) at tiling to_b (HoldsAt-block new a found.0 at (kept a found.0 absent found.1) found.2))
]

-- a tile that keeps its block keeps each stitch that did not lead to a touched key
pub stitches-kept :
    (old new : List (ℕ × Tile)) (blocks after : ℕ → Option Piece) (touched : List ℕ) (key : ℕ) (block : Piece) (tile next : Tile) → AreTiledAs old blocks → AreTiledAs new after
    → ((other : ℕ) (b : Piece) → ¬ (Contains touched other) → blocks other ≡ Some b → after other ≡ Some b) → blocks key ≡ Some block → after key ≡ Some block
    → tile_in old key ≡ Some tile → tile_in new key ≡ Some next → (stitch : Stitch) → IsKeptUnless touched (stitch_of stitch tile) (stitch_of stitch next)
stitches-kept old new blocks after touched key block tile next tiled tiled_after kept here here_after is is_after stitch =
    kept_stitch blocks after touched (stitch_of stitch tile) (stitch_of stitch next) (beyond stitch block.rect) tiled_after.tiling kept
    (tiled.stitched key tile block stitch is here) (tiled_after.stitched key next block stitch is_after here_after)

placed_as : (tiles : List (ℕ × Tile)) (blocks : ℕ → Option Piece) (key : ℕ) (tile : Tile) (block : Piece) → AreTiledAs tiles blocks → tile_in tiles key ≡ Some tile → blocks key ≡ Some block
    → IsPlaced tile block
placed_as tiles blocks key tile block tiled is here =
    let found = placed_block tiles blocks key tile (tiled.placed key) is in
    subst (IsPlaced tile) (same_Some found.0 block (sym found.1 ∙ here)) found.2

-- so it is kept
pub IsKept-block :
    (old new : List (ℕ × Tile)) (blocks after : ℕ → Option Piece) (touched : List ℕ) (key : ℕ) (block : Piece) (tile next : Tile) → AreTiledAs old blocks → AreTiledAs new after
    → ((other : ℕ) (b : Piece) → ¬ (Contains touched other) → blocks other ≡ Some b → after other ≡ Some b) → blocks key ≡ Some block → after key ≡ Some block
    → tile_in old key ≡ Some tile → tile_in new key ≡ Some next → IsKept touched tile next
IsKept-block old new blocks after touched key block tile next tiled tiled_after kept here here_after is is_after =
    let placed = placed_as old blocks key tile block tiled is here in
    let placed_after = placed_as new after key next block tiled_after is_after here_after in
    record {
      corner = same_square next.corner tile.corner (placed_after.left ∙ sym placed.left) (placed_after.bottom ∙ sym placed.bottom);
      kind = placed_after.kind ∙ sym placed.kind;
      stitches = stitches-kept old new blocks after touched key block tile next tiled tiled_after kept here here_after is is_after;
    }
