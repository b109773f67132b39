-- Marks that are carried from one rectangle to another one.
use Rattle.std.proofs.Common.{◌≡◌, ℕ, ◌+◌, ◌<◌, ◌≤◌, true, false, inl, inr, if◌then◌else◌, List, Any, Option, Some, None, IsSome, IfSome, IsTrue, get_or, length, map, refl, sym, ap, subst, ◌∙◌, arith}
use Rattle.std.proofs.Math.Path.{fun_ext}
use Rattle.std.proofs.lemmas.Bool.{both_ways, cases_Bool, cond-false, cond-true, false_from_ne_true}
use Rattle.std.proofs.lemmas.Bool.Decides.{nat_tests}
use Rattle.std.proofs.lemmas.List.{get_or-map, length-map}
use Rattle.std.proofs.lemmas.List.Elements.{All-map}
use Rattle.mls_errorplane.proofs.Common.{AreCarried, AreFew, AreInArea, AreRight, AreRightIn, Checked, Columns, EdgeRule, HasPlane, IsAlike, IsRectangleIn, LaidTile, Layout, Likeness, OneKind, Paints, Picture, Piece, Pool, Rect, Rows, SquareSet, Tells, block_at, count_of, edge_of, exceeds, holds, is_marked, joined, like_column, like_row, likened, marked_count, marks_picture, meets, overlaid, part_like, picture_in, piece_like, remarked, tiles_of, world}
use Rattle.mls_geom.proofs.Holds.{between_holds, holds_between}
use Rattle.mls_geom.proofs.JoinedRects.{holds-joined_one, holds-joined_other}
use Rattle.mls_geom.proofs.Overlays.{Agrees, overlaid_agreed, overlaid_outside}
use Rattle.mls_stitch.proofs.ListedTiles.{keys-AreInArea, length-le-AreLaid}
use Rattle.mls_stitch.proofs.ShownTiles.{KeysDiffer-tiles_of, shown-inside}
use Rattle.mls_errorplane.proofs.AlikeLayouts.{forbidden-alike}
use Rattle.mls_errorplane.proofs.CheckedMarks.{marked_either, marks_picture-alone}
use Rattle.mls_layout.proofs.LikeSquares.{like_column-again, like_row-again}
use Rattle.mls_errorplane.proofs.PaintedPieces.{holds_inside}
use Rattle.mls_errorplane.proofs.RectCounts.{marked_count-part, marked_count-remarked}

-- ---- the squares that tell
pub edge_of-legal : (likeness : Likeness) (from rect : Rect) → IsRectangleIn world from → IsRectangleIn world rect → IsRectangleIn world (edge_of likeness from rect)
edge_of-legal OneKind from rect legal legal' = record {
  left_in = legal.left_in;
  wide = omega arith;
  right_in = omega (arith, legal.wide, legal.right_in);
  bottom_in = legal.bottom_in;
  tall = omega arith;
  top_in = omega (arith, legal.tall, legal.top_in);
}
edge_of-legal Columns from rect legal legal' = record {
  left_in = legal'.left_in;
  wide = legal'.wide;
  right_in = legal'.right_in;
  bottom_in = legal.bottom_in;
  tall = omega arith;
  top_in = omega (arith, legal.tall, legal.top_in);
}
edge_of-legal Rows from rect legal legal' = record {
  left_in = legal.left_in;
  wide = omega arith;
  right_in = omega (arith, legal.wide, legal.right_in);
  bottom_in = legal'.bottom_in;
  tall = legal'.tall;
  top_in = legal'.top_in;
}

-- each square of the rectangle has the one that shows the same there
edge-holds : (likeness : Likeness) (from rect : Rect) (x y : ℕ) → holds rect x y ≡ true → holds (edge_of likeness from rect) (like_column likeness from x) (like_row likeness from y) ≡ true
edge-holds OneKind from rect x y here = between_holds (edge_of OneKind from rect) from.left from.bottom (omega arith) (omega arith) (omega arith) (omega arith)
edge-holds Columns from rect x y here =
    let lines = holds_between rect x y here in
    between_holds (edge_of Columns from rect) x from.bottom lines.0 lines.1 (omega arith) (omega arith)
edge-holds Rows from rect x y here =
    let lines = holds_between rect x y here in
    between_holds (edge_of Rows from rect) from.left y (omega arith) (omega arith) lines.2 lines.3

-- a tile that has a square of the edge has lines round it
meets-lines : (tile edge : Rect) → IsTrue (meets tile edge) → (tile.left < edge.right) × (edge.left < tile.right) × (tile.bottom < edge.top) × (edge.bottom < tile.top)
meets-lines tile edge met = (grind (arith, nat_tests), grind (arith, nat_tests), grind (arith, nat_tests), grind (arith, nat_tests))

pub part_like-legal :
    (likeness : Likeness) (from rect tile : Rect) → IsRectangleIn world rect → IsTrue (meets tile (edge_of likeness from rect)) → IsRectangleIn world (part_like likeness tile rect)
part_like-legal OneKind from rect tile legal met = legal
part_like-legal Columns from rect tile legal met =
    let lines = meets-lines tile (edge_of Columns from rect) met in
    record {
      left_in = omega (arith, legal.left_in);
      wide = grind (arith, legal.wide, lines.0, lines.1);
      right_in = omega (arith, legal.right_in);
      bottom_in = legal.bottom_in;
      tall = legal.tall;
      top_in = legal.top_in;
    }
part_like-legal Rows from rect tile legal met =
    let lines = meets-lines tile (edge_of Rows from rect) met in
    record {
      left_in = legal.left_in;
      wide = legal.wide;
      right_in = legal.right_in;
      bottom_in = omega (arith, legal.bottom_in);
      tall = grind (arith, legal.tall, lines.2, lines.3);
      top_in = omega (arith, legal.top_in);
    }

-- a square of a tile's part is one of the rectangle, and the tile has the one that shows the same
part-holds :
    (likeness : Likeness) (from rect tile : Rect) (x y : ℕ) → IsTrue (meets tile (edge_of likeness from rect)) → holds (part_like likeness tile rect) x y ≡ true
    → (holds rect x y ≡ true) × (holds tile (like_column likeness from x) (like_row likeness from y) ≡ true)
part-holds OneKind from rect tile x y met here =
    let lines = meets-lines tile (edge_of OneKind from rect) met in
    (here, between_holds tile from.left from.bottom (omega (arith, lines.0)) lines.1 (omega (arith, lines.2)) lines.3)
part-holds Columns from rect tile x y met here =
    let lines = meets-lines tile (edge_of Columns from rect) met in
    let sides = holds_between (part_like Columns tile rect) x y here in (
      between_holds rect x y (omega (arith, sides.0)) (omega (arith, sides.1)) sides.2 sides.3,
      between_holds tile x from.bottom (omega (arith, sides.0)) (omega (arith, sides.1)) (omega (arith, lines.2)) lines.3,
    )
part-holds Rows from rect tile x y met here =
    let lines = meets-lines tile (edge_of Rows from rect) met in
    let sides = holds_between (part_like Rows tile rect) x y here in (
      between_holds rect x y sides.0 sides.1 (omega (arith, sides.2)) (omega (arith, sides.3)),
      between_holds tile from.left y (omega (arith, lines.0)) lines.1 (omega (arith, sides.2)) (omega (arith, sides.3)),
    )

-- and each square of the rectangle is one of the part of the tile that has the square that shows the same
holds-part :
    (likeness : Likeness) (from rect tile : Rect) (x y : ℕ) → holds rect x y ≡ true → holds tile (like_column likeness from x) (like_row likeness from y) ≡ true
    → holds (part_like likeness tile rect) x y ≡ true
holds-part OneKind from rect tile x y here there = here
holds-part Columns from rect tile x y here there =
    let lines = holds_between rect x y here in
    let sides = holds_between tile x from.bottom there in
    between_holds (part_like Columns tile rect) x y (grind (arith, lines.0, sides.0)) (grind (arith, lines.1, sides.1)) lines.2 lines.3
holds-part Rows from rect tile x y here there =
    let lines = holds_between rect x y here in
    let sides = holds_between tile from.left y there in
    between_holds (part_like Rows tile rect) x y lines.0 lines.1 (grind (arith, lines.2, sides.2)) (grind (arith, lines.3, sides.3))

-- ---- the pieces that paint them
-- a search finds no more tiles than the owner has
pub length-found : (pool : Pool) (owner : ℕ) (area : Rect) (list : List LaidTile) → AreInArea (block_at (tiles_of pool owner)) area list → length list ≤ count_of pool owner
length-found pool owner area list found =
    let tiles = tiles_of pool owner in
    length-le-AreLaid tiles list (λ k d within. (found.each k d within).laid) (keys-AreInArea (block_at tiles) area list found)

-- what fits a reserve fits where the reserve does
pub within_room : (room : Option ℕ) (count capacity : ℕ) → IsSome room → IfSome room (λ r. count ≤ r) → IfSome room (λ r. r ≤ capacity) → count ≤ capacity
within_room None count capacity live fewer fits = absurd (cc live)
within_room (Some r) count capacity live fewer fits = omega (arith, fewer, fits)

pub fewer_than_room : (room : Option ℕ) (count more : ℕ) → count ≤ more → IfSome room (λ r. more ≤ r) → IfSome room (λ r. count ≤ r)
fewer_than_room None count more fewer fits = fits
fewer_than_room (Some r) count more fewer fits = omega (arith, fewer, fits)

module _
    (pool : Pool) (owner : ℕ) (likeness : Likeness) (from rect : Rect) (found : List LaidTile)
    (plane : HasPlane pool owner)
    (shows : picture_in pool owner ≡ marks_picture (is_marked (picture_in pool owner)))
    (are : AreInArea (block_at (tiles_of pool owner)) (edge_of likeness from rect) found) where
  abbrev set : SquareSet
  set = likened likeness from (is_marked (picture_in pool owner))

  -- a tile's part has the tile's kind where the set has it as a mark
  part-agrees : (k : ℕ) (d : LaidTile) (x y : ℕ) → k < length found → Agrees x y (if set x y then 1 else 0) (piece_like likeness rect (get_or found k d))
  part-agrees k d x y within held =
      let tile = get_or found k d in
      let column = like_column likeness from x in
      let row = like_row likeness from y in
      let there = (part-holds likeness from rect tile.piece.rect x y (are.each k d within).met held).1 in
      sym (shown-inside (tiles_of pool owner) tile.id tile.piece column row plane.plane (KeysDiffer-tiles_of pool owner) (are.each k d within).laid there)
      ∙ ap (λ (p : Picture). p column row) shows

  part-outside : (k : ℕ) (d : LaidTile) (x y : ℕ) → k < length found → holds rect x y ≡ false → holds (piece_like likeness rect (get_or found k d)).rect x y ≡ false
  part-outside k d x y within outside =
      let tile = get_or found k d in
      false_from_ne_true (holds (part_like likeness tile.piece.rect rect) x y)
      (λ held. both_ways (holds rect x y) outside (part-holds likeness from rect tile.piece.rect x y (are.each k d within).met held).0)

  part-whole : (x y : ℕ) → holds rect x y ≡ true → Any (λ (piece : Piece). holds piece.rect x y ≡ true) (map (piece_like likeness rect) found)
  part-whole x y here =
      let (k, tile, within, is, held) = are.whole (like_column likeness from x) (like_row likeness from y) (edge-holds likeness from rect x y here) in
      let piece = piece_like likeness rect tile in (
        k,
        piece,
        subst (λ n. k < n) (sym (length-map found (piece_like likeness rect))) within,
        get_or-map (piece_like likeness rect) found k tile piece within ∙ ap (piece_like likeness rect) is,
        holds-part likeness from rect tile.piece.rect x y here held,
      )

  pub Paints-like : (pieces : List Piece) → pieces ≡ map (piece_like likeness rect) found → Paints pieces rect set
  Paints-like pieces made below x y =
      let parts = map (piece_like likeness rect) found in
      let kind : ℕ = if set x y then 1 else 0 in
      ap (λ (list : List Piece). overlaid below list x y) made
      ∙ elim (cases_Bool (holds rect x y)) [
        | inl here ↦ overlaid_agreed below parts x y kind (All-map (Agrees x y kind) (piece_like likeness rect) found (λ k d within. part-agrees k d x y within)) (part-whole x y here)
            ∙ sym (cond-true (holds rect x y) kind (below x y) here)
        | inr outside ↦ overlaid_outside below parts x y
            (All-map (λ (p : Piece). holds p.rect x y ≡ false) (piece_like likeness rect) found (λ k d within. part-outside k d x y within outside))
            ∙ sym (cond-false (holds rect x y) kind (below x y) outside)
      ]

-- ---- the plane afterwards
-- it shows marks and nothing else
pub remarked-shows : (old new : Picture) (rect : Rect) (marked : SquareSet) → old ≡ marks_picture (is_marked old) → new ≡ remarked old rect marked → new ≡ marks_picture (is_marked new)
remarked-shows old new rect marked shows is =
    marks_picture-alone new (λ x y. if holds rect x y then marked x y else is_marked old x y)
    (is ∙ ap (λ (below : Picture). remarked below rect marked) shows ∙ fun_ext (λ x. fun_ext (λ y. marked_either (holds rect x y) (marked x y) (marked x y) (is_marked old x y) (λ _. refl))))

module _
    (old new : Picture) (rect : Rect) (marked : SquareSet) (before after : ℕ)
    (legal : IsRectangleIn world rect)
    (is : new ≡ remarked old rect marked)
    (counted : before ≡ marked_count rect old) where
  -- and as many squares fewer and more as were counted
  pub carried-recount : after ≡ marked_count rect new → marked_count world new + before ≡ marked_count world old + after
  carried-recount counted' = omega (arith, counted, counted', marked_count-remarked rect rect marked old new legal refl is)

  pub carried-few : before ≤ marked_count world old
  carried-few = omega (arith, counted, marked_count-part world rect old legal)

-- ---- marks that are right
-- carried marks are right, where the layout has the likeness round both rectangles together
pub AreRight-carried :
    (rules : List EdgeRule) (layout : Layout) (likeness : Likeness) (from rect : Rect) (old new : SquareSet) → IsRectangleIn world from → IsRectangleIn world rect
    → Tells likeness from rect → IsAlike likeness rules layout (joined from rect) → AreCarried likeness from rect old new → AreRight rules layout old from
    → AreRight rules layout new rect
AreRight-carried rules layout likeness from rect old new legal legal' tells alike carried right x y here =
    let column = like_column likeness from x in
    let row = like_row likeness from y in
    let both = joined from rect in
    carried.there x y here ∙ right column row (tells x y here)
    ∙ sym (forbidden-alike rules layout likeness both x y column row alike (sym (like_column-again likeness both from x)) (sym (like_row-again likeness both from y))
    (holds-joined_other from rect x y here) (holds-joined_one from rect column row (tells x y here)) (holds_inside world rect x y legal' here)
    (holds_inside world from column row legal (tells x y here)))

-- and what was right stays so
AreRight-kept :
    (rules : List EdgeRule) (layout : Layout) (old new : SquareSet) (rect e : Rect) → AreRight rules layout new rect → ((x y : ℕ) → holds rect x y ≡ false → new x y ≡ old x y)
    → AreRight rules layout old e → AreRight rules layout new e
AreRight-kept rules layout old new rect e right elsewhere before x y here = elim (cases_Bool (holds rect x y)) [
  | inl inside ↦ right x y inside
  | inr outside ↦ elsewhere x y outside ∙ before x y here
]

pub AreRightIn-kept :
    (rules : List EdgeRule) (layout : Layout) (old new : SquareSet) (rect : Rect) (checked : Checked) → AreRight rules layout new rect
    → ((x y : ℕ) → holds rect x y ≡ false → new x y ≡ old x y) → AreRightIn rules layout old checked → AreRightIn rules layout new checked
AreRightIn-kept rules layout old new rect checked right elsewhere before = (
  AreRight-kept rules layout old new rect checked.last right elsewhere before.0,
  AreRight-kept rules layout old new rect checked.row right elsewhere before.1,
  AreRight-kept rules layout old new rect checked.block right elsewhere before.2,
  AreRight-kept rules layout old new rect checked.largest right elsewhere before.3,
)

-- few tiles on the way are few afterwards
pub fits-after : (limit : ℕ) (rect : Rect) (old new : SquareSet) → AreFew limit rect old new → exceeds limit new ≡ false
fits-after limit rect old new few = grind (arith, nat_tests, few.few)
