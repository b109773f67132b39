-- The squares that remain of those that were reached, once the tiles of the allowed kinds were taken away.
use Rattle.std.proofs.Common.{◌≡◌, ℕ, Bool, true, false, true≢false, not, ◌&&◌, List, refl, sym, ap, ◌∙◌, arith}
use Rattle.std.proofs.lemmas.Bool.{and_from, and_parts}
use Rattle.std.proofs.lemmas.List.Elements.{All-contains}
use Rattle.std.proofs.lemmas.List.Folds.{Any-from_list_any, list_any-from_Any}
use Rattle.mls_geom.specs.Pictures.{Picture}
use Rattle.mls_geom.specs.Rects.{Rect, IsRectangleIn, holds}
use Rattle.mls_geom.specs.World.{world}
use Rattle.mls_geom.proofs.Holds.{between_holds, holds_between}
use Rattle.mls_kinds.specs.KindSets.{has_bit}
use Rattle.mls_checker.specs.Grids.{in_kinds}
use Rattle.mls_checker.specs.Tiles.{AreTiles, HasTile, Tile, outer}

-- a square in a tile of one of the kinds has such a kind
pub of-kinds : (picture : Picture) (tiles : List Tile) (kinds x y : ℕ) → AreTiles outer picture tiles → in_kinds tiles kinds x y ≡ true → has_bit kinds (picture x y) ≡ true
of-kinds picture tiles kinds x y are some =
    let (k, tile, within, is, passes) = Any-from_list_any (λ (t : Tile). has_bit kinds t.kind && holds t.area x y) tiles some in
    let (kind, here) = and_parts (has_bit kinds tile.kind) (holds tile.area x y) passes in
    ap (has_bit kinds) (All-contains (HasTile picture) tiles tile are.shown (k, within, is) x y here) ∙ kind

-- and a square near the world that has such a kind lies in such a tile
pub in-tile : (picture : Picture) (tiles : List Tile) (kinds x y : ℕ) → AreTiles outer picture tiles → holds outer x y ≡ true → has_bit kinds (picture x y) ≡ true → in_kinds tiles kinds x y ≡ true
in-tile picture tiles kinds x y are near kind =
    let (k, tile, within, is, here) = are.whole x y near in
    let shown = All-contains (HasTile picture) tiles tile are.shown (k, within, is) x y here in
    list_any-from_Any (λ (t : Tile). has_bit kinds t.kind && holds t.area x y) tiles
    (k, tile, within, is, and_from (has_bit kinds tile.kind) (holds tile.area x y) (ap (has_bit kinds) (sym shown) ∙ kind) here)

remains : (old new in' has : Bool) → (in' ≡ true → has ≡ true) → (new ≡ true → has ≡ true → in' ≡ true) → new ≡ (old && not in') → new ≡ (old && not has)
remains false new in' has some all is = is
remains true new true has some all is = is ∙ sym (ap not (some refl))
remains true new false true some all is = absurd (true≢false (sym (all is refl)))
remains true new false false some all is = is

pub marked_where_forbidden :
    (rect : Rect) (picture : Picture) (tiles items : List Tile) (kinds x y : ℕ) (old new : Bool) → AreTiles outer picture tiles → items ≡ tiles → IsRectangleIn world rect
    → (new ≡ true → holds rect x y ≡ true) → new ≡ (old && not (in_kinds items kinds x y)) → new ≡ (old && not (has_bit kinds (picture x y)))
marked_where_forbidden rect picture tiles items kinds x y old new are same legal within is =
    remains old new (in_kinds tiles kinds x y) (has_bit kinds (picture x y)) (of-kinds picture tiles kinds x y are)
    (λ reached kind.
    let lines = holds_between rect x y (within reached) in
    in-tile picture tiles kinds x y are
    (between_holds outer x y (omega (arith, legal.left_in, lines.0)) (omega (arith, legal.right_in, lines.1)) (omega (arith, legal.bottom_in, lines.2)) (omega (arith, legal.top_in, lines.3))) kind)
    (is ∙ ap (λ (ts : List Tile). old && not (in_kinds ts kinds x y)) same)
