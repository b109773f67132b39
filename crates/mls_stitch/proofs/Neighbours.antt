-- The tiles to which stitches lead.
use Rattle.std.proofs.Common.{◌≡◌, ℕ, List, Option, Some, None, sym, ap, ◌∙◌}
use Rattle.mls_stitch.proofs.Common.{same_Some, option_map, Piece, Tile, block_at, IsLaid, laid_at, LaidTile}

laid_is : (block : Option Piece) (key : ℕ) (tile : LaidTile) → option_map (λ piece. record { id = key; piece = piece }) block ≡ Some tile → (block ≡ Some tile.piece) × (key ≡ tile.id)
laid_is None key tile is = absurd (cc)
laid_is (Some piece) key tile is =
    let same : record { id = key; piece = piece } ≡ tile = same_Some _ tile is in
    (ap (λ (t : LaidTile). Some t.piece) same, ap (λ (t : LaidTile). t.id) same)

-- what is read under a key is laid there
pub laid_read : (tiles : List (ℕ × Tile)) (key : ℕ) (tile : LaidTile) → laid_at tiles key ≡ Some tile → IsLaid (block_at tiles) tile × (tile.id ≡ key)
laid_read tiles key tile is =
    let (block, id) = laid_is (block_at tiles key) key tile is in
    (ap (block_at tiles) (sym id) ∙ block, sym id)
