-- The marked squares of a rectangle, counted by the tiles that are found in it.
use Rattle.std.proofs.Common.{◌≡◌, ℕ, suc, ◌+◌, ◌<◌, ◌≤◌, ◌==◌, Bool, ◌&&◌, not, true, false, cond, max, Option, List, [], ◌∷◌, length, get_or, take, All, AllPairs, IsTrue, refl, sym, ap, ◌∙◌, arith, sum_by}
use Rattle.std.specs.List.{list_any}
use Rattle.std.proofs.lemmas.Bool.{and_from, and_parts, false_from_ne_true}
use Rattle.std.proofs.lemmas.Bool.Decides.{nat_tests}
use Rattle.std.proofs.lemmas.List.Elements.{All-contains, All-head, All-tail}
use Rattle.std.proofs.lemmas.List.Folds.{Any-from_list_any, list_any-from_Any}
use Rattle.std.proofs.lemmas.List.Sums.{sum_by-cons, sum_by_more_le}
use Rattle.mls_errorplane.proofs.Common.{AreBlocks, AreInArea, HasPlane, IsFound, LaidTile, MeetArea, Piece, Pool, Rect, block_at, comes_first, common, holds, is_marked, marked_count, meets, picture_in, size_of, tiles_of}
use Rattle.mls_stitch.proofs.Listings.{one_tile}
use Rattle.mls_checker.proofs.Copying.{found-HasPiece}
use Rattle.mls_errorplane.specs.PaintedMarks.{marked_part}
use Rattle.mls_errorplane.proofs.CoveredOnce.{count_in-meeting}
use Rattle.mls_errorplane.proofs.MarkCounts.{same_test}
use Rattle.mls_errorplane.proofs.SquareCounts.{count_in, count_in-agree, count_in-apart, count_in-none}

-- the marked squares of a tile, and of tiles
abbrev pub in_tile : LaidTile → ℕ → ℕ → Bool
in_tile tile x y = not (tile.piece.kind == 0) && holds tile.piece.rect x y

abbrev pub in_tiles : List LaidTile → ℕ → ℕ → Bool
in_tiles tiles x y = list_any (λ tile. in_tile tile x y) tiles

-- a tile that has a square of the rectangle has as many as their common lines say, or none
count_in-kind : (r tile : Rect) (is_space : Bool) → meets tile r ≡ true → count_in r (λ x y. not is_space && holds tile x y) ≡ cond is_space 0 (size_of (common tile r))
count_in-kind r tile true met = count_in-none r
count_in-kind r tile false met = count_in-meeting r tile met

-- a tile does not come before one over the same squares
not_first : (area : Rect) (p q : LaidTile) → p.piece ≡ q.piece → comes_first area p q ≡ true → ⊥
not_first area p q same first =
    let bottoms = ap (λ (r : Piece). max r.rect.bottom area.bottom) same in
    let lefts = ap (λ (r : Piece). r.rect.left) same in
    grind (arith, nat_tests)

-- found tiles share no square
tiles_apart :
    (blocks : ℕ → Option Piece) (r : Rect) (tile : LaidTile) (rest : List LaidTile) → AreBlocks blocks → All (IsFound blocks r) (tile ∷ rest)
    → AllPairs (λ p q. IsTrue (comes_first r p q)) (tile ∷ rest) → (x y : ℕ) → in_tile tile x y ≡ true → in_tiles rest x y ≡ false
tiles_apart blocks r tile rest tiling found ordered x y here = false_from_ne_true (in_tiles rest x y) (λ there.
    let (k, other, within, is, shared) = Any-from_list_any (λ t. in_tile t x y) rest there in
    let first : 0 < suc k = omega arith in
    let second : suc k < length (tile ∷ rest) = omega (arith, within) in
    let found_tile = All-head (IsFound blocks r) tile rest found in
    let found_other = All-contains (IsFound blocks r) rest other (All-tail (IsFound blocks r) tile rest found) (k, within, is) in
    let same : tile ≡ other = one_tile blocks tile other x y tiling found_tile.laid found_other.laid (and_parts _ _ here).1 (and_parts _ _ shared).1 in
    not_first r tile (get_or rest k other) (ap (λ (t : LaidTile). t.piece) (same ∙ sym is)) (ordered 0 (suc k) other first second))

-- so they have as many marked squares as each
count_in-tiles :
    (blocks : ℕ → Option Piece) (r : Rect) (tiles : List LaidTile) → AreBlocks blocks → All (IsFound blocks r) tiles
    → AllPairs (λ p q. IsTrue (comes_first r p q)) tiles → count_in r (in_tiles tiles) ≡ sum_by (marked_part r) tiles
count_in-tiles blocks r [] tiling found ordered = count_in-none r
count_in-tiles blocks r (tile ∷ rest) tiling found ordered =
    let others =
    count_in-tiles blocks r rest tiling (All-tail (IsFound blocks r) tile rest found) (λ i j d before within. ordered (suc i) (suc j) d (omega (arith, before)) (omega (arith, within))) in
    let both = count_in-apart r (in_tile tile) (in_tiles rest) (tiles_apart blocks r tile rest tiling found ordered) in
    let one = count_in-kind r tile.piece.rect (tile.piece.kind == 0) (All-head (IsFound blocks r) tile rest found).met in
    omega (arith, others, both, one, sum_by-cons (marked_part r) tile rest)

-- a square of the rectangle is marked where a found tile of a kind other than 0 has it
pub marked_by_tiles :
    (pool : Pool) (owner : ℕ) (r : Rect) (tiles : List LaidTile) (x y : ℕ) → HasPlane pool owner → MeetArea (block_at (tiles_of pool owner)) r tiles → holds r x y ≡ true
    → is_marked (picture_in pool owner) x y ≡ in_tiles tiles x y
marked_by_tiles pool owner r tiles x y plane are inside =
    same_test (is_marked (picture_in pool owner) x y) (in_tiles tiles x y)
    (λ marked.
    let (k, tile, within, is, held) = are.whole x y inside in
    let kind = found-HasPiece pool owner r tiles tiles k tile plane are refl within (sym is) x y held in
    list_any-from_Any (λ t. in_tile t x y) tiles (k, tile, within, is, and_from _ _ (ap (λ n. not (n == 0)) (sym kind) ∙ marked) held))
    (λ shown.
    let (k, tile, within, is, test) = Any-from_list_any (λ t. in_tile t x y) tiles shown in
    let parts = and_parts _ _ test in
    let kind = found-HasPiece pool owner r tiles tiles k tile plane are refl within (sym is) x y parts.1 in
    ap (λ n. not (n == 0)) kind ∙ parts.0)

-- the tiles found in a rectangle have its marked squares, each once
pub marked_count-found :
    (pool : Pool) (owner : ℕ) (r : Rect) (tiles : List LaidTile) → HasPlane pool owner → AreInArea (block_at (tiles_of pool owner)) r tiles
    → marked_count r (picture_in pool owner) ≡ sum_by (marked_part r) tiles
unfolding marked_count
marked_count-found pool owner r tiles plane are =
    let met : MeetArea (block_at (tiles_of pool owner)) r tiles = record { each = are.each; whole = are.whole } in
    count_in-agree r (is_marked (picture_in pool owner)) (in_tiles tiles) (λ x y inside. marked_by_tiles pool owner r tiles x y plane met inside)
    ∙ count_in-tiles (block_at (tiles_of pool owner)) r tiles plane.plane.tiling are.each are.ordered

-- those of the tiles so far, with those of the next, are no more
pub next_part-le :
    (r : Rect) (tiles : List LaidTile) (i count more : ℕ) (tile : LaidTile) → i < length tiles → tile ≡ get_or tiles i tile
    → count ≡ sum_by (marked_part r) (take i tiles) → more ≡ marked_part r tile → count + more ≤ sum_by (marked_part r) tiles
next_part-le r tiles i count more tile within next so_far size =
    let same = ap (marked_part r) next in
    omega (arith, sum_by_more_le (marked_part r) tiles i tile within, so_far, size, same)
