-- What a split and a join make of the calls that they rest on.
use Rattle.std.proofs.Common.{◌≡◌, ℕ, List, [], ◌∷◌, Option, Some, IsSomeAnd, IfSome, sym, ap, ◌∙◌, subst}
use Rattle.mls_stitch.proofs.Common.{Piece, Tile, Replaces, HoldsAt, IsPlane, block_at, laid_at, LaidTile}
use Rattle.mls_stitch.specs.Splits.{IsCutAt, JoinAlong, Joins, Splits, first_part, joined_along, second_part}
use Rattle.mls_stitch.specs.declared.split.Axis.{Axis}
use Rattle.mls_stitch.proofs.CutBlocks.{AreJoined}
use Rattle.mls_stitch.proofs.Neighbours.{laid_read}
use Rattle.mls_stitch.proofs.ShownTiles.{KeysDiffer}
use Rattle.mls_stitch.proofs.SplitTiles.{Joins-join, Splits-cut}

-- what is read under a key is the block there
pub read-block :
    (P : Piece → Type 0) (tiles : List (ℕ × Tile)) (key : ℕ) (read : Option LaidTile) (tile : LaidTile) → read ≡ laid_at tiles key → read ≡ Some tile → IsSomeAnd (block_at tiles key) P
    → (block_at tiles key ≡ Some tile.piece) × P tile.piece
read-block P tiles key read tile is found there =
    let (laid, id) = laid_read tiles key tile (sym is ∙ found) in
    let here : block_at tiles key ≡ Some tile.piece = ap (block_at tiles) (sym id) ∙ laid in
    (here, subst (λ block. IsSomeAnd block P) here there)

pub read-joined :
    (axis : Axis) (tiles : List (ℕ × Tile)) (first second : ℕ) (read_a read_b : Option LaidTile) (a b : LaidTile) → read_a ≡ laid_at tiles first → read_a ≡ Some a
    → read_b ≡ laid_at tiles second → read_b ≡ Some b → IsSomeAnd (block_at tiles first) (λ p. IsSomeAnd (block_at tiles second) (λ q. JoinAlong axis p q))
    → AreJoined (block_at tiles) axis first second a.piece b.piece
read-joined axis tiles first second read_a read_b a b is_a found_a is_b found_b there =
    let (here_a, beside) = read-block (λ p. IsSomeAnd (block_at tiles second) (λ q. JoinAlong axis p q)) tiles first read_a a is_a found_a there in
    let (here_b, related) = read-block (λ q. JoinAlong axis a.piece q) tiles second read_b b is_b found_b beside in
    record { is_a = here_a; is_b = here_b; join = related }

-- a tile that gave way to the parts of its block is split
pub Splits-call :
    (old new : List (ℕ × Tile)) (tile id : ℕ) (block : Piece) (parts : Piece × Piece) (axis : Axis) (at : ℕ) → parts ≡ (first_part axis at block, second_part axis at block) → IsPlane old
    → KeysDiffer old → block_at old tile ≡ Some block → IsCutAt axis at block → Replaces old new (tile ∷ []) (parts.0 ∷ parts.1 ∷ [])
    → HoldsAt (block_at new) id (record { x = parts.1.rect.left; y = parts.1.rect.bottom })
    → IfSome (block_at old tile) (λ whole. Splits old new tile id (first_part axis at whole) (second_part axis at whole))
Splits-call old new tile id block parts axis at are plane differ here inside done held =
    subst (λ found. IfSome found (λ whole. Splits old new tile id (first_part axis at whole) (second_part axis at whole))) (sym here)
    (Splits-cut old new tile id block axis at plane differ here inside (rw are at done) (rw are at held))

-- and two tiles that gave way to both as one are joined
pub Joins-call :
    (old new : List (ℕ × Tile)) (axis : Axis) (first second : ℕ) (a b whole : Piece) → whole ≡ joined_along axis a b → IsPlane old → KeysDiffer old
    → AreJoined (block_at old) axis first second a b → Replaces old new (first ∷ second ∷ []) (whole ∷ [])
    → IfSome (block_at old first) (λ p. IfSome (block_at old second) (λ q. Joins old new first second (joined_along axis p q)))
Joins-call old new axis first second a b whole is plane differ joins done =
    subst (λ found. IfSome found (λ p. IfSome (block_at old second) (λ q. Joins old new first second (joined_along axis p q)))) (sym joins.is_a)
    (subst (λ found. IfSome found (λ q. Joins old new first second (joined_along axis a q))) (sym joins.is_b)
    (Joins-join old new axis first second a b plane differ joins (rw is at done)))
