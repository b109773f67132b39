-- What area search found, once it is sorted.
use Rattle.std.proofs.Common.{◌≡◌, ◌≢◌, ℕ, true, false, Ordering, ◌&&◌, ◌||◌, ◌==◌, nat_lt, max, List, get_or, Option, AllPairs, IsPermutation, inl, inr, sym, ap, ◌∙◌, subst, arith}
use Rattle.mls_stitch.proofs.Common.{IsSortedByKey, cases_eq, nat_tests, All-permutation, ranks_by, sorted_far, Rect, IsRectangleIn, holds, world, Piece, between_holds, AreInArea, IsFound, MeetArea, comes_first, first_row, AreBlocks, LaidTile}
use Rattle.std.specs.Ordering.{is_lt, nat_cmp, ordering_then}
use Rattle.std.proofs.lemmas.Cmp.{nat_cmp_total, on_total, then_total}
use Rattle.mls_stitch.proofs.Listings.{first_row_found, meets_lines, one_tile}
use Rattle.mls_stitch.proofs.MovedTiles.{any_moved, once_moved}
use Rattle.mls_stitch.proofs.Sides.{legal-AreBlocks}

-- two numbers in turn
abbrev pub row_cmp : ℕ × ℕ → ℕ × ℕ → Ordering
row_cmp p q = ordering_then (nat_cmp p.0 q.0) (nat_cmp p.1 q.1)

abbrev pub place_of : Rect → LaidTile → ℕ × ℕ
place_of area tile = (first_row area tile, tile.piece.rect.left)

row_before : (a b x y : ℕ) → is_lt (ordering_then (nat_cmp a x) (nat_cmp b y)) ≡ (nat_lt a x || (a == x && nat_lt b y))
row_before a b x y = grind (arith, nat_tests)

-- none comes before an earlier one
pub none_first : (area : Rect) (list : List LaidTile) → IsSortedByKey (place_of area) row_cmp list → AllPairs (λ p q. comes_first area q p ≡ false) list
none_first area list sorted i j d before within =
    let p = get_or list i d in
    let q = get_or list j d in
    sym (row_before (first_row area q) q.piece.rect.left (first_row area p) p.piece.rect.left)
    ∙ sorted_far (λ x y. is_lt (row_cmp (place_of area x) (place_of area y))) (ranks_by (then_total (on_total (λ (p : ℕ × ℕ). p.0) nat_cmp_total) (on_total (λ (p : ℕ × ℕ). p.1) nat_cmp_total)) (place_of area)) list sorted i j d (omega (arith, before)) within

-- of two different places the one that does not come second comes first
first_of : (p q left right : ℕ) → (nat_lt q p || (q == p && nat_lt right left)) ≡ false → ((p ≡ q) × (left ≡ right) → ⊥) → (nat_lt p q || (p == q && nat_lt left right)) ≡ true
first_of p q left right not_after differ = elim (cases_eq p q) [
  | inl level ↦
      elim (cases_eq left right) [
        | inl same ↦ absurd (differ (level, same))
        | inr apart ↦ grind (arith, nat_tests)
      ]
  | inr apart ↦ grind (arith, nat_tests)
]

module _ (blocks : ℕ → Option Piece) (area : Rect) (tiling : AreBlocks blocks) (inside : IsRectangleIn world area) where
  -- a found tile has its first square in the area
  first_square : (tile : LaidTile) → IsFound blocks area tile → holds tile.piece.rect (max tile.piece.rect.left area.left) (first_row area tile) ≡ true
  first_square tile found =
      let lines = meets_lines tile.piece.rect area found.met in
      let rows = first_row_found blocks area tiling inside tile found in
      let legal = legal-AreBlocks blocks tile.id tile.piece tiling found.laid in
      between_holds tile.piece.rect (max tile.piece.rect.left area.left) (first_row area tile) (omega arith) (omega (arith, lines.1, legal.wide)) rows.0 rows.2

  -- two found tiles with one first square are one
  apart_found : (p q : LaidTile) → IsFound blocks area p → IsFound blocks area q → (first_row area p ≡ first_row area q) × (p.piece.rect.left ≡ q.piece.rect.left) → p ≡ q
  apart_found p q found_p found_q (row, left) =
      one_tile blocks p q (max p.piece.rect.left area.left) (first_row area p) tiling found_p.laid found_q.laid (first_square p found_p)
      (subst (λ x. holds q.piece.rect (max x area.left) (first_row area p) ≡ true) (sym left)
      (subst (λ y. holds q.piece.rect (max q.piece.rect.left area.left) y ≡ true) (sym row) (first_square q found_q)))

  -- sorted, the tiles of an area are what area search finds
  pub area_found :
      (list sorted : List LaidTile) → MeetArea blocks area list → AllPairs (λ p q. p.id ≢ q.id) list → IsPermutation list sorted → AllPairs (λ p q. comes_first area q p ≡ false) sorted
      → AreInArea blocks area sorted
  area_found list sorted found once moved none =
      let each = All-permutation (IsFound blocks area) list sorted moved found.each in
      record {
        each = each;
        whole = λ x y held. any_moved (λ tile. holds tile.piece.rect x y ≡ true) list sorted moved (found.whole x y held);
        ordered = λ i j d before within.
            let p = get_or sorted i d in
            let q = get_or sorted j d in
            first_of (first_row area p) (first_row area q) p.piece.rect.left q.piece.rect.left (none i j d before within)
            (λ same. once_moved list sorted moved once i j d before within (ap (λ (t : LaidTile). t.id) (apart_found p q (each i d (omega (arith, before, within))) (each j d within) same)));
      }
