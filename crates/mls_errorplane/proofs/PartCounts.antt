-- The strips of an extent's rows from one on are no more than the whole extent's strips that have a square there.
use Rattle.std.proofs.Common.{◌≡◌, ℕ, ◌<◌, ◌≤◌, max, not, true, inl, inr, List, map, length, get_or, All, Any, Contains, sym, ap, subst, subst₂, ◌∙◌, arith}
use Rattle.std.proofs.lemmas.Bool.{and_parts, cases_lt}
use Rattle.std.proofs.lemmas.List.{get_or-map, length-map}
use Rattle.std.proofs.lemmas.List.Elements.{All-contains, All-map}
use Rattle.mls_errorplane.specs.Common.{HasStrips, IsStrip, LaidTile, MeetArea, Picture, Piece, Pool, Rect, block_at, blocks_of, goes_on_below, holds, is_corner, picture_in, starts_run, tile_count, tiles_of, world}
use Rattle.mls_geom.proofs.Ascending.{Contains-map}
use Rattle.mls_geom.proofs.Corners.{corner-IsStrip}
use Rattle.mls_geom.proofs.Holds.{between_holds, holds_between}
use Rattle.mls_geom.proofs.RunTests.{left-starts_run}
use Rattle.mls_geom.proofs.StripLaws.{All-corners, corners, corners_ascend, length-corners}
use Rattle.mls_geom.proofs.UnorderedStrips.{once_from_order, squares-le, unordered_strips_number}
use Rattle.mls_stitch.proofs.MaximalTiles.{strip-IsMaximal}
use Rattle.mls_errorplane.proofs.StairCorners.{from_row, is_corner-from_row}

-- ---- strips
-- the lower-left square of a piece's part in the rows from one on
abbrev corner_from : ℕ → Piece → ℕ × ℕ
corner_from base piece = (piece.rect.left, max piece.rect.bottom base)

module _ (extent : Rect) (picture : Picture) (base : ℕ) (list : List Piece) (inside : extent.bottom ≤ base) (strips : All (IsStrip extent picture) list)
    (whole : (x y : ℕ) → holds (from_row extent base) x y ≡ true → Any (λ piece. holds piece.rect x y ≡ true) list) where
  abbrev part : Rect
  part = from_row extent base

  -- each corner of the part is that of a strip's part
  corner_there : (x y : ℕ) → holds part x y ≡ true → is_corner part picture x y ≡ true → Contains (map (corner_from base) list) (x, y)
  corner_there x y here corner =
      let found = whole x y here in
      let piece = found.1 in
      let in_list : Contains list piece = (found.0, found.2, found.3) in
      let strip = All-contains (IsStrip extent picture) list piece strips in_list in
      let lines = holds_between piece.rect x y found.4 in
      let from = (holds_between part x y here).2 in
      let tests = and_parts (starts_run extent picture x y) (not (goes_on_below part picture x y)) corner in
      let left =
      left-starts_run extent picture piece.rect.left piece.rect.right y piece.kind x (strip.rows y lines.2 lines.3) lines.0 lines.1 tests.0 in
      let bottom : max piece.rect.bottom base ≡ y = elim (cases_lt base y) [
        | inl over ↦
            let own = (corner-IsStrip extent picture piece x y strip found.4 (sym (is_corner-from_row extent picture base x y inside over) ∙ corner)).1 in
            omega (arith, own, over)
        | inr lowest ↦ omega (arith, lowest, from, lines.2)
      ] in
      subst₂ (λ a b. Contains (map (corner_from base) list) (a, b)) left bottom (Contains-map (corner_from base) list piece in_list)

  -- so it has no more than there are strips
  pub tile_count-strips : tile_count part picture ≤ length list
  tile_count-strips =
      let there = All-corners (Contains (map (corner_from base) list)) part picture corner_there in
      let few = squares-le (corners part picture) (map (corner_from base) list) (once_from_order (corners part picture) (corners_ascend part picture)) there in
      omega (arith, few, length-corners part picture, length-map list (corner_from base))

-- ---- planes
module _ (pool : Pool) (owner base : ℕ) (strips : HasStrips pool owner) (inside : world.bottom ≤ base) where
  -- the tiles that a search finds in the rows from one on are no fewer than the strips there
  pub tile_count-found :
      (found : List LaidTile) → MeetArea (block_at (tiles_of pool owner)) (from_row world base) found → tile_count (from_row world base) (picture_in pool owner) ≤ length found
  tile_count-found found are =
      let piece_of = λ (tile : LaidTile). tile.piece in
      let few =
      tile_count-strips world (picture_in pool owner) base (map piece_of found) inside
      (All-map (IsStrip world (picture_in pool owner)) piece_of found
      (λ k d within. strip-IsMaximal (tiles_of pool owner) (get_or found k d).id (get_or found k d).piece strips.maximal (are.each k d within).laid))
      (λ x y here.
      let (k, tile, within, is, held) = are.whole x y here in
      (k, tile.piece, subst (λ n. k < n) (sym (length-map found piece_of)) within, get_or-map piece_of found k tile tile.piece within ∙ ap piece_of is, held)) in
      omega (arith, few, length-map found piece_of)

  -- and neither are all tiles
  pub tile_count-above : tile_count (from_row world base) (picture_in pool owner) ≤ tile_count world (picture_in pool owner)
  tile_count-above =
      let all = blocks_of (tiles_of pool owner) in
      let few =
      tile_count-strips world (picture_in pool owner) base all inside strips.maximal.each
      (λ x y here.
      let lines = holds_between (from_row world base) x y here in
      strips.maximal.whole x y (between_holds world x y lines.0 lines.1 (omega (arith, inside, lines.2)) lines.3)) in
      omega (arith, few, unordered_strips_number world (picture_in pool owner) all strips.maximal)
