-- The marked squares of a rectangle, counted by tiles that have as many squares of it together as it has.
use Rattle.std.proofs.Common.{◌≡◌, ℕ, ◌+◌, ◌≤◌, ◌==◌, Bool, ◌||◌, ◌&&◌, not, true, false, cond, List, get_or, sym, ap, subst, inl, inr, ◌∙◌, arith, sum_by}
use Rattle.std.specs.List.{list_any}
use Rattle.std.proofs.lemmas.Bool.{and_from, cases_Bool, or_left, or_right, not_from_false}
use Rattle.std.proofs.lemmas.List.Folds.{list_any-from_Any}
use Rattle.mls_errorplane.proofs.Common.{HasPlane, IsRectangleIn, LaidTile, MeetArea, Pool, Rect, block_at, common, holds, is_marked, marked_count, picture_in, size_of, tiles_of, world}
use Rattle.mls_geom.proofs.InnerRects.{IsRectangleIn-itself}
use Rattle.mls_errorplane.specs.PaintedMarks.{marked_part, space_size}
use Rattle.mls_errorplane.proofs.CoveredOnce.{count_in-common, count_in-list, whole-from-both}
use Rattle.mls_errorplane.proofs.FoundCounts.{in_tile, in_tiles, marked_by_tiles}
use Rattle.mls_errorplane.proofs.ShownMarks.{in_space, space-le}
use Rattle.mls_errorplane.proofs.SquareCounts.{count_in, count_in-agree, count_in-none}

kind-le : (extent r : Rect) (is_space : Bool) → count_in extent (λ x y. not is_space && holds r x y) ≤ cond is_space 0 (size_of (common r extent))
kind-le e r true = let none : count_in e (λ x y. false) ≡ 0 = count_in-none e in omega (arith, none)
kind-le e r false = count_in-common e r

-- the marked squares of tiles are no more than those of each
marked-le : (r : Rect) (tiles : List LaidTile) → count_in r (in_tiles tiles) ≤ sum_by (marked_part r) tiles
marked-le r tiles = count_in-list r in_tile (marked_part r) tiles (λ k tile within. kind-le r (get_or tiles k tile).piece.rect ((get_or tiles k tile).piece.kind == 0))

exactly : (a b m s size : ℕ) → a ≤ m → b ≤ s → m + s ≡ size → size ≤ a + b → a ≡ m
exactly a b m s size one other all whole = omega (arith, one, other, all, whole)

-- tiles found in a rectangle that have as many squares of it together as it has have its marked squares, each once
pub marked_count-total :
    (pool : Pool) (owner : ℕ) (r : Rect) (tiles listed : List LaidTile) (count : ℕ) → HasPlane pool owner → MeetArea (block_at (tiles_of pool owner)) r tiles
    → IsRectangleIn world r → listed ≡ tiles → count ≡ sum_by (marked_part r) listed → count + sum_by (space_size r) listed ≡ size_of r
    → count ≡ marked_count r (picture_in pool owner)
unfolding marked_count
marked_count-total pool owner r tiles listed count plane are legal same counted whole =
    let space : ℕ → ℕ → Bool = λ x y. list_any (λ t. in_space t x y) tiles in
    let covered : (x y : ℕ) → holds r x y ≡ true → (in_tiles tiles x y || space x y) ≡ true = λ x y inside.
    (let (k, t, at, is, held) = are.whole x y inside in
    elim (cases_Bool (t.piece.kind == 0)) [
      | inl is_space ↦ or_right (in_tiles tiles x y) (space x y) (list_any-from_Any (λ (u : LaidTile). in_space u x y) tiles (k, t, at, is, and_from _ _ is_space held))
      | inr marked ↦ or_left (in_tiles tiles x y) (space x y) (list_any-from_Any (λ (u : LaidTile). in_tile u x y) tiles (k, t, at, is, and_from _ _ (not_from_false _ marked) held))
    ]) in
    let shown : count_in r (is_marked (picture_in pool owner)) ≡ count_in r (in_tiles tiles) =
    count_in-agree r (is_marked (picture_in pool owner)) (in_tiles tiles) (λ x y inside. marked_by_tiles pool owner r tiles x y plane are inside) in
    let sums = λ (list : List LaidTile). sum_by (marked_part r) list in
    let total : sum_by (marked_part r) tiles + sum_by (space_size r) tiles ≡ size_of r =
    subst (λ (list : List LaidTile). sum_by (marked_part r) list + sum_by (space_size r) list ≡ size_of r) same
    (subst (λ n. n + sum_by (space_size r) listed ≡ size_of r) counted whole) in
    let exact = exactly _ _ _ _ _ (marked-le r tiles) (space-le r tiles) total (whole-from-both r (in_tiles tiles) space (IsRectangleIn-itself world r legal) covered) in
    counted ∙ ap sums same ∙ sym exact ∙ sym shown
