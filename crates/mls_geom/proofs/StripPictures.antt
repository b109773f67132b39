-- A picture by its strips.
use Rattle.mls_geom.proofs.Common.{◌≡◌, ◌≢◌, ℕ, IsTrue, true, false, List, get_or, subst, le_refl, ⊎_elim, sym, ◌∙◌, arith, fun_ext, nat_tests, cases_Bool, both_ways, false_from_ne_true}
use Rattle.mls_geom.proofs.Definitions.{Rect, IsRectangleIn, holds, Picture, empty_picture, picture_of, AreUnorderedStrips, IsStrip, AreStrips, comes_before, Piece}
use Rattle.mls_geom.proofs.Holds.{holds_between, between_holds}
use Rattle.mls_geom.proofs.Overlays.{overlaid_outside, overlaid_agreed}

-- the squares of a strip have its kind
pub kind-IsStrip : (extent : Rect) (picture : Picture) (piece : Piece) (x y : ℕ) → IsStrip extent picture piece → holds piece.rect x y ≡ true → piece.kind ≡ picture x y
kind-IsStrip extent picture piece x y strip inside =
    let lines = holds_between piece.rect x y inside in
    sym ((strip.rows y lines.2 lines.3).one_kind x lines.0 lines.1)

-- and lie in the extent
pub holds-IsStrip : (extent : Rect) (picture : Picture) (piece : Piece) (x y : ℕ) → IsStrip extent picture piece → holds piece.rect x y ≡ true → holds extent x y ≡ true
holds-IsStrip extent picture piece x y strip inside =
    let lines = holds_between piece.rect x y inside in
    let run = strip.rows y lines.2 lines.3 in
    between_holds extent x y (omega (arith, run.from, lines.0)) (omega (arith, run.to, lines.1)) (omega (arith, strip.from, lines.2)) (omega (arith, strip.to, lines.3))

-- a strip is a rectangle of the extent
pub IsRectangleIn-IsStrip : (extent : Rect) (picture : Picture) (piece : Piece) → IsStrip extent picture piece → IsRectangleIn extent piece.rect
IsRectangleIn-IsStrip extent picture piece strip =
    let run = strip.rows piece.rect.bottom (le_refl piece.rect.bottom) strip.tall in
    record { left_in = run.from; wide = run.wide; right_in = run.to; bottom_in = strip.from; tall = strip.tall; top_in = strip.to }

-- a piece that stands before another is another
pub apart_from_order : (p q : Piece) → IsTrue (comes_before p q) → p ≢ q
apart_from_order p q before same =
    let itself : IsTrue (comes_before q q) = subst (λ r. IsTrue (comes_before r q)) same before in
    grind (arith, nat_tests)

-- strips in order are strips in any order
pub AreUnorderedStrips-ordered : (extent : Rect) (picture : Picture) (list : List Piece) → AreStrips extent picture list → AreUnorderedStrips extent picture list
AreUnorderedStrips-ordered extent picture list strips = record {
  each = strips.each;
  whole = strips.whole;
  once = λ i j d before within. apart_from_order (get_or list i d) (get_or list j d) (strips.ordered i j d before within);
}

-- the strips of a picture show it in the extent
pub picture_of_strips_inside :
    (extent : Rect) (picture : Picture) (list : List Piece) (x y : ℕ) → AreUnorderedStrips extent picture list → holds extent x y ≡ true → picture_of list x y ≡ picture x y
picture_of_strips_inside extent picture list x y strips inside =
    overlaid_agreed empty_picture list x y (picture x y) (λ k d within. kind-IsStrip extent picture (get_or list k d) x y (strips.each k d within)) (strips.whole x y inside)

-- and nothing outside it
pub picture_of_strips_outside :
    (extent : Rect) (picture : Picture) (list : List Piece) (x y : ℕ) → AreUnorderedStrips extent picture list → holds extent x y ≡ false → picture_of list x y ≡ 0
picture_of_strips_outside extent picture list x y strips outside =
    overlaid_outside empty_picture list x y
    (λ k d within. false_from_ne_true _ (λ inside. both_ways (holds extent x y) outside (holds-IsStrip extent picture (get_or list k d) x y (strips.each k d within) inside)))

-- so they show the whole of a picture that has nothing outside
pub picture_of_strips :
    (extent : Rect) (picture : Picture) (list : List Piece) → AreUnorderedStrips extent picture list → ((x y : ℕ) → holds extent x y ≡ false → picture x y ≡ 0) → picture_of list ≡ picture
picture_of_strips extent picture list strips empty = fun_ext (λ x. fun_ext (λ y. ⊎_elim
    (picture_of_strips_inside extent picture list x y strips)
    (λ outside. picture_of_strips_outside extent picture list x y strips outside ∙ sym (empty x y outside)) (cases_Bool (holds extent x y))))
