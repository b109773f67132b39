-- Pieces for the squares that areas have of a part.
use Rattle.std.proofs.Common.{◌≡◌, ℕ, ◌+◌, ◌<◌, Bool, ◌||◌, true, false, List, [], ◌∷◌, ◌++◌, length, length-append, get_or, take, refl, sym, ap, subst, ◌∙◌, arith}
use Rattle.std.proofs.lemmas.List.Folds.{list_any_more}
use Rattle.mls_errorplane.proofs.Common.{IsRectangleIn, Paints, Piece, Rect, SquareSet, common, has_squares, holds, squares_of, world}
use Rattle.mls_geom.proofs.Holds.{has_squares_lines}
use Rattle.mls_geom.proofs.InnerRects.{IsRectangleIn-itself}
use Rattle.mls_errorplane.proofs.CoveredOnce.{in_common, not_common}
use Rattle.mls_errorplane.proofs.PaintedPieces.{Paints-agree, Paints-push}

-- the lines of common squares
pub common_in : (outer part area : Rect) → IsRectangleIn outer part → has_squares (common area part) ≡ true → IsRectangleIn outer (common area part)
common_in outer part area legal some =
    let lines = has_squares_lines (common area part) some in
    record {
      left_in = omega (arith, legal.left_in);
      wide = lines.0;
      right_in = omega (arith, legal.right_in);
      bottom_in = omega (arith, legal.bottom_in);
      tall = lines.1;
      top_in = omega (arith, legal.top_in);
    }

or_none : (a b : Bool) → b ≡ false → a ≡ (a || b)
or_none true b none = refl
or_none false b none = sym none

-- a piece for the squares that the part has of one more area
pub Paints-common :
    (pieces new : List Piece) (part area r : Rect) (set : SquareSet) → IsRectangleIn world part → has_squares (common area part) ≡ true → r ≡ common area part
    → new ≡ pieces ++ record { rect = r; kind = 1 } ∷ [] → Paints pieces part set → Paints new part (λ x y. set x y || holds area x y)
Paints-common pieces new part area r set legal some same pushed paints =
    let e = common area part in
    let made =
    Paints-agree (pieces ++ record { rect = e; kind = 1 } ∷ []) part (λ x y. set x y || holds e x y) (λ x y. set x y || holds area x y)
    (λ x y inside. ap (λ b. set x y || b) (sym (in_common part area x y inside))) (Paints-push pieces part e set (common_in part part area (IsRectangleIn-itself world part legal) some) paints) in
    let list : pieces ++ record { rect = e; kind = 1 } ∷ [] ≡ new = ap (λ (e : Rect). pieces ++ record { rect = e; kind = 1 } ∷ []) (sym same) ∙ sym pushed in
    subst (λ (xs : List Piece). Paints xs part (λ x y. set x y || holds area x y)) list made

-- none where the part has none
pub Paints-none :
    (pieces : List Piece) (part area : Rect) (set : SquareSet) → has_squares (common area part) ≡ false → Paints pieces part set → Paints pieces part (λ x y. set x y || holds area x y)
Paints-none pieces part area set none paints =
    Paints-agree pieces part set (λ x y. set x y || holds area x y) (λ x y inside. or_none (set x y) (holds area x y) (not_common part area x y none inside)) paints

-- the areas so far and the next
pub Paints-next :
    (new : List Piece) (part area : Rect) (areas : List Rect) (i : ℕ) → i < length areas → area ≡ get_or areas i area
    → Paints new part (λ x y. squares_of (take i areas) x y || holds area x y) → Paints new part (squares_of (take (i + 1) areas))
Paints-next new part area areas i within is paints =
    Paints-agree new part (λ x y. squares_of (take i areas) x y || holds area x y) (squares_of (take (i + 1) areas))
    (λ x y _.
    ap (λ (e : Rect). squares_of (take i areas) x y || holds e x y) is ∙ sym (list_any_more (λ (e : Rect). holds e x y) areas i area within)) paints

-- a list with one piece more
pub length-pushed : (pieces new : List Piece) (piece : Piece) → new ≡ pieces ++ piece ∷ [] → length new ≡ length pieces + 1
length-pushed pieces new piece pushed = ap length pushed ∙ length-append pieces (piece ∷ [])
