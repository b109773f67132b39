-- The strips of a picture number its tile count, in whatever order they stand.
use Rattle.mls_geom.proofs.Common.{◌≡◌, ◌≢◌, ℕ, ◌≤◌, Bool, ◌&&◌, ◌==◌, List, map, length, get_or, All, AllPairs, Contains, Decides, sym, ap, subst, ◌∙◌, arith, IsEquivalence, and_parts, and_from, eqb-true, eq-eqb, nat_tests, length-map, All-contains, All-map, length-le_from_is_member, is_member-Decides, IsDistinct-from_AllPairs}
use Rattle.mls_geom.proofs.Definitions.{AreUnorderedStrips, Picture, Rect, IsStrip, tile_count, Piece}
use Rattle.mls_geom.proofs.Ascending.{AllPairs-map}
use Rattle.mls_geom.proofs.Corners.{same_strip}
use Rattle.mls_geom.proofs.Squares.{StandsBefore, stands_before_one_way}
use Rattle.mls_geom.proofs.StripLaws.{corners, corner_of, strip_corner_there, strip_there, All-corners, corners_ascend, length-corners}

-- the squares are one
abbrev is_square : ℕ × ℕ → ℕ × ℕ → Bool
is_square s t = s.0 == t.0 && s.1 == t.1

is_square-decides : (s t : ℕ × ℕ) → Decides (is_square s t) (s ≡ t)
is_square-decides s t = (
  λ same.
      let tests = and_parts (s.0 == t.0) (s.1 == t.1) same in
      let columns = eqb-true s.0 t.0 tests.0 in
      let rows = eqb-true s.1 t.1 tests.1 in
      λ i. (columns i, rows i),
  λ same. and_from (s.0 == t.0) (s.1 == t.1) (eq-eqb s.0 t.0 (ap (λ p. p.0) same)) (eq-eqb s.1 t.1 (ap (λ p. p.1) same)),
)

is_square-laws : IsEquivalence is_square
is_square-laws = record {
  refl = λ s. grind (arith, nat_tests);
  symm = λ s t. grind (arith, nat_tests);
  congr = λ s t u same. grind (arith, nat_tests);
}

-- different squares of a list are at most as many as all of it
pub squares-le : (xs ys : List (ℕ × ℕ)) → AllPairs (λ s t. s ≢ t) xs → All (Contains ys) xs → length xs ≤ length ys
squares-le xs ys once there =
    length-le_from_is_member is_square-laws xs ys (IsDistinct-from_AllPairs is_square-decides xs once)
    (λ s held. (is_member-Decides is_square-decides ys s).1 (All-contains (Contains ys) xs s there ((is_member-Decides is_square-decides xs s).0 held)))

-- so two lists that have the same squares, each once, are of one length
pub same_length :
    (xs ys : List (ℕ × ℕ)) → AllPairs (λ s t. s ≢ t) xs → AllPairs (λ s t. s ≢ t) ys → All (Contains ys) xs → All (Contains xs) ys → length xs ≡ length ys
same_length xs ys once once' there back = omega (arith, squares-le xs ys once there, squares-le ys xs once' back)

-- squares in order are each there once
pub once_from_order : (xs : List (ℕ × ℕ)) → AllPairs StandsBefore xs → AllPairs (λ s t. s ≢ t) xs
once_from_order xs ordered i j d before within same =
    let after = ordered i j d before within in
    let itself = subst (λ s. StandsBefore s (get_or xs j d)) same after in
    stands_before_one_way (get_or xs j d) (get_or xs j d) itself itself

-- different strips have different lower-left squares
pub corners_apart :
    (extent : Rect) (picture : Picture) (list : List Piece) → All (IsStrip extent picture) list → AllPairs (λ p q. p ≢ q) list
    → AllPairs (λ s t. s ≢ t) (map corner_of list)
corners_apart extent picture list strips once =
    AllPairs-map (λ s t. s ≢ t) corner_of list
    (λ i j d before within same.
    once i j d before within
    (same_strip extent picture (get_or list i d) (get_or list j d) (strips i d (omega arith)) (strips j d within) (ap (λ s. s.0) same) (ap (λ s. s.1) same)))

-- strips in any order number the tile count
pub unordered_strips_number :
    (extent : Rect) (picture : Picture) (list : List Piece) → AreUnorderedStrips extent picture list → length list ≡ tile_count extent picture
unordered_strips_number extent picture list strips =
    let there = All-map (Contains (corners extent picture)) corner_of list (λ k d within. strip_corner_there extent picture (get_or list k d) (strips.each k d within)) in
    let back =
    All-corners (Contains (map corner_of list)) extent picture
    (λ x y inside corner. strip_there extent picture list x y strips.each (strips.whole x y inside) corner) in
    let same =
    same_length (map corner_of list) (corners extent picture) (corners_apart extent picture list strips.each strips.once)
    (once_from_order (corners extent picture) (corners_ascend extent picture)) there back in
    sym (length-map list corner_of) ∙ same ∙ length-corners extent picture
