-- The strips of a picture, laid as the tiles of an owner and stitched.
use Rattle.std.proofs.Common.{◌≡◌, ◌≢◌, ℕ, ◌<◌, List, [], length, map, AllPairs, Option, refl, sym, ap, ◌∙◌, subst, arith}
use Rattle.mls_stitch.proofs.Common.{AreUnorderedStrips, picture_of, world, Piece, Tile, fresh_at, AwaitStitches, Lays, AreTiledAs, IsMaximal, IsPlane, shown, LaidTile}
use Rattle.mls_stitch.proofs.BuiltTiles.{AwaitStitches-strips, IsMaximal-built, shown-built}
use Rattle.mls_stitch.proofs.ReplacedBlocks.{piece_of}
use Rattle.mls_stitch.proofs.ShownTiles.{KeysDiffer}
use Rattle.mls_stitch.proofs.Sides.{IsPlane-AreTiledAs}

-- there is a strip, since the world has a square
pub some_strip : (pieces : List Piece) → AreUnorderedStrips world (picture_of pieces) pieces → 0 < length pieces
some_strip pieces strips = let (k, piece, within, is, held) = strips.whole world.left world.bottom refl in omega (arith, within)

-- with no tile before, the laid tiles are the list
listed_all : {mid : List (ℕ × Tile)} {pieces : List Piece} {after : List LaidTile} (a : Lays [] mid [] pieces [] after) → map piece_of after ≡ pieces
listed_all a = ap (map piece_of) a.listed ∙ a.pieces

once_all : {mid : List (ℕ × Tile)} {pieces : List Piece} {after : List LaidTile} (a : Lays [] mid [] pieces [] after) → AllPairs (λ p q. p.id ≢ q.id) after
once_all a = subst (AllPairs (λ (p q : LaidTile). p.id ≢ q.id)) (sym a.listed) a.ways.once

strips_all : {mid : List (ℕ × Tile)} {pieces : List Piece} {after : List LaidTile} (a : Lays [] mid [] pieces [] after) → AreUnorderedStrips world (picture_of pieces) pieces
    → AreUnorderedStrips world (picture_of (map piece_of after)) (map piece_of after)
strips_all a strips = subst (λ list. AreUnorderedStrips world (picture_of list) list) (sym (listed_all a)) strips

-- the strips are laid and wait for their stitches
pub AwaitStitches-built :
    {mid : List (ℕ × Tile)} (pieces : List Piece) (after : List LaidTile) → AreUnorderedStrips world (picture_of pieces) pieces → Lays [] mid [] pieces [] after → AwaitStitches mid (fresh_at after) [] after
AwaitStitches-built {mid} pieces after strips a =
    subst (λ list. AwaitStitches mid (fresh_at list) [] list) (sym a.listed)
    (AwaitStitches-strips (picture_of pieces) a.laid (subst (AreUnorderedStrips world (picture_of pieces)) (sym a.pieces) strips) a.ways.once mid a.ways)

-- what is built of strips: a plane that shows their picture, and each tile is maximal
pub record IsBuilt (tiles : List (ℕ × Tile)) (pieces : List Piece) : Type 0 where
  pub plane : IsPlane tiles
  pub picture : shown tiles ≡ picture_of pieces
  pub maximal : IsMaximal tiles

pub IsBuilt-stitched :
    {mid new : List (ℕ × Tile)} (pieces : List Piece) (after listed : List LaidTile) → AreUnorderedStrips world (picture_of pieces) pieces → Lays [] mid [] pieces [] after → listed ≡ after
    → KeysDiffer new → ((blocks : ℕ → Option Piece) → AwaitStitches mid blocks [] listed → AreTiledAs new blocks) → IsBuilt new pieces
IsBuilt-stitched {new = new} pieces after listed strips laid is differ stitched =
    let tiled = stitched (fresh_at after) (rw is (AwaitStitches-built pieces after strips laid)) in
    record {
      plane = IsPlane-AreTiledAs new (fresh_at after) tiled;
      picture = shown-built new after (strips_all laid strips) (once_all laid) tiled differ ∙ ap picture_of (listed_all laid);
      maximal = IsMaximal-built new after (strips_all laid strips) (once_all laid) tiled differ;
    }
