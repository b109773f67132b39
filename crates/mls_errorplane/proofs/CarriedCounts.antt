-- How many tiles there may be after marks are carried.
use Rattle.std.proofs.Common.{◌≡◌, ℕ, ◌+◌, ◌*◌, ◌<◌, ◌≤◌, ◌==◌, Bool, cond, not, true, false, inl, inr, List, All, IfSome, Option, None, Some, length, refl, sym, ap, ◌∙◌, le_refl, arith}
use Rattle.std.proofs.lemmas.Bool.{both_ways, cases_Bool, false_from_ne_true}
use Rattle.std.proofs.lemmas.List.Elements.{All-contains}
use Rattle.mls_errorplane.proofs.Common.{AreCarried, AreFew, Columns, GoUp, HasPlane, HasStrips, IsRectangleIn, LaidTile, LeavesRoom, Likeness, MeetArea, OneKind, Picture, Pool, Rect, Rows, RunsThrough, SquareSet, block_at, carries_up, holds, is_marked, likened, marks_picture, picture_in, piece_side, remarked, tile_count, tiles_of, world}
use Rattle.mls_geom.proofs.Holds.{between_holds, holds_between}
use Rattle.mls_checker.proofs.Copying.{found-HasPiece}
use Rattle.mls_errorplane.proofs.PartCounts.{tile_count-above, tile_count-found}

-- what holds of a number, if there is one, leads to what follows from it
pub IfSome-leads : {X : Type 0} {P Q : X → Type 0} (at : Option X) → ((x : X) → P x → Q x) → IfSome at P → IfSome at Q
IfSome-leads None leads is = is
IfSome-leads (Some n) leads is = leads n is

-- ---- before
-- where all tiles are counted, and all rows of a piece
pub LeavesRoom-all :
    (pool : Pool) (owner limit : ℕ) (likeness : Likeness) (rect : Rect) (most : ℕ) → HasStrips pool owner → IsRectangleIn world rect
    → tile_count world (picture_in pool owner) + most + 2 * piece_side ≡ limit → LeavesRoom limit likeness rect (picture_in pool owner) most
LeavesRoom-all pool owner limit likeness rect most strips legal is = record {
  rows = piece_side;
  some = omega arith;
  go_up = λ less. absurd (omega (arith, less));
  few = omega (arith, is, tile_count-above pool owner rect.bottom strips legal.bottom_in);
}

-- where the tiles from a rectangle's bottom on run through its rows, the marks go up there
GoUp-found :
    (pool : Pool) (owner : ℕ) (rect : Rect) (found : List LaidTile) → HasPlane pool owner → IsRectangleIn world rect
    → MeetArea (block_at (tiles_of pool owner)) (record world { bottom = rect.bottom }) found → All (λ tile. RunsThrough rect tile.piece.rect) found
    → GoUp rect (is_marked (picture_in pool owner))
GoUp-found pool owner rect found plane legal are run x y here =
    let part = record world { bottom = rect.bottom } in
    let lines = holds_between (record world { bottom = rect.bottom; top = rect.top }) x y here in
    let (k, tile, within, is, held) = are.whole x y (between_holds part x y lines.0 lines.1 lines.2 (omega (arith, lines.3, legal.top_in))) in
    let sides = holds_between tile.piece.rect x y held in
    let spans = All-contains (λ (t : LaidTile). RunsThrough rect t.piece.rect) found tile run (k, within, is) (omega (arith, sides.2, lines.3)) in
    let shown = found-HasPiece pool owner part found found k tile plane are refl within (sym is) in
    let low = between_holds tile.piece.rect x rect.bottom sides.0 sides.1 spans.0 (omega (arith, spans.1, legal.tall)) in
    ap (λ kind. not (kind == 0)) (shown x y held ∙ sym (shown x rect.bottom low))

-- where those found there are counted
pub LeavesRoom-found :
    (pool : Pool) (owner limit : ℕ) (likeness : Likeness) (rect : Rect) (most rows : ℕ) (found : List LaidTile) → HasStrips pool owner → IsRectangleIn world rect
    → MeetArea (block_at (tiles_of pool owner)) (record world { bottom = rect.bottom }) found → 1 ≤ rows
    → (rows < piece_side → All (λ tile. RunsThrough rect tile.piece.rect) found × (carries_up likeness ≡ true)) → length found + most + 2 * rows ≡ limit
    → LeavesRoom limit likeness rect (picture_in pool owner) most
LeavesRoom-found pool owner limit likeness rect most rows found strips legal are some even is = record {
  rows = rows;
  some = some;
  go_up = λ less. (GoUp-found pool owner rect found strips.plane legal are (even less).0, (even less).1);
  few = omega (arith, is, tile_count-found pool owner rect.bottom strips legal.bottom_in found are);
}

-- ---- after
-- where a rectangle is marked anew as it is told, marks are carried
marked_as : (b : Bool) → not (cond {A = ℕ} b 1 0 == 0) ≡ b
marked_as true = refl
marked_as false = refl

pub AreCarried-remarked :
    (likeness : Likeness) (from rect : Rect) (old new : Picture) → new ≡ remarked old rect (likened likeness from (is_marked old))
    → AreCarried likeness from rect (is_marked old) (is_marked new)
AreCarried-remarked likeness from rect old new is =
    let set = likened likeness from (is_marked old) in
    let mark = λ (x y : ℕ) (inside : Bool). not (cond {A = ℕ} inside (cond {A = ℕ} (set x y) 1 0) (old x y) == 0) in
    let each = λ (x y : ℕ). ap (λ (p : Picture). is_marked p x y) is in
    record {
      there = λ x y here. each x y ∙ ap (mark x y) here ∙ marked_as (set x y);
      elsewhere = λ x y outside. each x y ∙ ap (mark x y) outside;
    }

-- what is carried up is the same in all rows
likened-up : (likeness : Likeness) (from : Rect) (set : SquareSet) (x y z : ℕ) → carries_up likeness ≡ true → likened likeness from set x y ≡ likened likeness from set x z
likened-up OneKind from set x y z up = refl
likened-up Columns from set x y z up = refl
likened-up Rows from set x y z up = absurd (cc up)

-- so marks that go up do so after others are carried up
GoUp-carried :
    (likeness : Likeness) (from rect : Rect) (old new : SquareSet) → IsRectangleIn world rect → AreCarried likeness from rect old new → carries_up likeness ≡ true
    → GoUp rect old → GoUp rect new
GoUp-carried likeness from rect old new legal carried up go_up x y here =
    let lines = holds_between (record world { bottom = rect.bottom; top = rect.top }) x y here in
    elim (cases_Bool (holds rect x y)) [
      | inl inside ↦ (
          let sides = holds_between rect x y inside in
          let low = between_holds rect x rect.bottom sides.0 sides.1 (le_refl rect.bottom) legal.tall in
          carried.there x y inside ∙ likened-up likeness from old x y rect.bottom up ∙ sym (carried.there x rect.bottom low))
      | inr outside ↦ (
          let outside' = false_from_ne_true (holds rect x rect.bottom)
          (λ held. let sides = holds_between rect x rect.bottom held in both_ways (holds rect x y) outside (between_holds rect x y sides.0 sides.1 lines.2 lines.3)) in
          carried.elsewhere x y outside ∙ go_up x y here ∙ sym (carried.elsewhere x rect.bottom outside'))
    ]

-- marks that leave no more tiles than there is room for are few enough
pub AreFew-carried :
    (limit : ℕ) (likeness : Likeness) (from rect : Rect) (picture : Picture) (new : SquareSet) (most : ℕ) → IsRectangleIn world rect
    → picture ≡ marks_picture (is_marked picture) → LeavesRoom limit likeness rect picture most → AreCarried likeness from rect (is_marked picture) new
    → tile_count world (marks_picture new) ≤ most → AreFew limit rect (is_marked picture) new
AreFew-carried limit likeness from rect picture new most legal shows room carried few = record {
  rows = room.rows;
  some = room.some;
  go_up = λ less.
      let before = room.go_up less in
      (before.0, GoUp-carried likeness from rect (is_marked picture) new legal carried before.1 before.0);
  few = omega (arith, few, room.few, ap (tile_count (record world { bottom = rect.bottom })) shows);
}
