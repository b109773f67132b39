-- The strips of pieces that lie in a rectangle and leave none of its squares out are pieces of what they show there.
use Rattle.std.proofs.Common.{◌≡◌, ◌≢◌, ℕ, ◌-◌, Bool, true, false, List, refl, sym, ◌∙◌, arith}
use Rattle.std.specs.List.{All}
use Rattle.std.proofs.lemmas.Bool.{true≢false}
use Rattle.std.proofs.lemmas.List.Elements.{All-weaker}
use Rattle.mls_geom.specs.Locality.{AreCoveredStrips, laid, uncovered}
use Rattle.mls_geom.specs.Pictures.{Picture}
use Rattle.mls_geom.specs.Rects.{IsRectangleIn, Rect, holds}
use Rattle.mls_geom.specs.Strips.{IsStrip}
use Rattle.mls_geom.specs.World.{world}
use Rattle.mls_geom.specs.declared.piece.Piece.{Piece}
use Rattle.mls_geom.proofs.Holds.{between_holds, holds_between}
use Rattle.mls_geom.proofs.Overlays.{overlaid_outside}
use Rattle.mls_layout.specs.Grids.{CoverBlock, Shows}
use Rattle.mls_layout.proofs.ShownUses.{inside_world}

-- a square outside the rectangle lies in none of the pieces
outside : (rect : Rect) (pieces : List Piece) (x y : ℕ) → All (λ piece. IsRectangleIn rect piece.rect) pieces → holds rect x y ≡ false → laid pieces x y ≡ uncovered
outside rect pieces x y inside out =
    overlaid_outside (λ x y. uncovered) pieces x y (All-weaker (λ (piece : Piece). IsRectangleIn rect piece.rect) (λ piece. holds piece.rect x y ≡ false) apart pieces inside)
  where
    apart : (piece : Piece) → IsRectangleIn rect piece.rect → holds piece.rect x y ≡ false
    apart piece legal = by (holds piece.rect x y) refl
      where
        by : (here : Bool) → holds piece.rect x y ≡ here → here ≡ false
        by true at =
            let lines = holds_between piece.rect x y at in
            absurd (true≢false (sym (between_holds rect x y (omega (arith, lines.0, legal.left_in)) (omega (arith, lines.1, legal.right_in)) (omega (arith, lines.2, legal.bottom_in)) (omega (arith, lines.3, legal.top_in))) ∙ out))
        by false at = refl

-- so a covered square lies in it
covered_inside : (rect : Rect) (pieces : List Piece) (x y : ℕ) → All (λ piece. IsRectangleIn rect piece.rect) pieces → laid pieces x y ≢ uncovered → holds rect x y ≡ true
covered_inside rect pieces x y inside some = by (holds rect x y) refl
  where
    by : (here : Bool) → holds rect x y ≡ here → here ≡ true
    by true at = refl
    by false at = absurd (some (outside rect pieces x y inside at))

module _ (rect : Rect) (pieces : List Piece) (inside : All (λ piece. IsRectangleIn rect piece.rect) pieces) where
  -- each square of a strip has the strip's kind
  strip-shown : (strip : Piece) (x y : ℕ) → IsStrip world (laid pieces) strip → holds strip.rect x y ≡ true → laid pieces x y ≡ strip.kind
  strip-shown strip x y is here =
      let lines = holds_between strip.rect x y here in
      (is.rows y lines.2 lines.3).one_kind x lines.0 lines.1

  strip-inside : (strip : Piece) (x y : ℕ) → IsStrip world (laid pieces) strip × (strip.kind ≢ uncovered) → holds strip.rect x y ≡ true → holds rect x y ≡ true
  strip-inside strip x y is here = covered_inside rect pieces x y inside (λ none. is.1 (sym (strip-shown strip x y is.0 here) ∙ none))

  -- and the strip lies in the rectangle, since its corners do
  strip-within : (strip : Piece) → IsStrip world (laid pieces) strip × (strip.kind ≢ uncovered) → IsRectangleIn rect strip.rect
  strip-within strip is =
      let tall = is.0.tall in
      let run = is.0.rows strip.rect.bottom (omega arith) tall in
      let low = strip-inside strip strip.rect.left strip.rect.bottom is (between_holds strip.rect strip.rect.left strip.rect.bottom (omega arith) run.wide (omega arith) tall) in
      let high = strip-inside strip (strip.rect.right - 1) (strip.rect.top - 1) is
      (between_holds strip.rect (strip.rect.right - 1) (strip.rect.top - 1) (omega (arith, run.wide)) (omega (arith, run.wide)) (omega (arith, tall)) (omega (arith, tall))) in
      let from = holds_between rect strip.rect.left strip.rect.bottom low in
      let to = holds_between rect (strip.rect.right - 1) (strip.rect.top - 1) high in
      record {
        left_in = from.0;
        wide = run.wide;
        right_in = omega (arith, to.1, run.wide);
        bottom_in = from.2;
        tall = tall;
        top_in = omega (arith, to.3, tall);
      }

  pub CoverBlock-strips :
      (picture : Picture) (strips : List Piece) → IsRectangleIn world rect → ((x y : ℕ) → holds rect x y ≡ true → laid pieces x y ≡ picture x y)
      → ((x y : ℕ) → holds rect x y ≡ true → laid pieces x y ≢ uncovered) → AreCoveredStrips world (laid pieces) strips → CoverBlock rect picture strips
  CoverBlock-strips picture strips legal show whole are = record {
    bounded = All-weaker (λ (strip : Piece). IsStrip world (laid pieces) strip × (strip.kind ≢ uncovered)) (λ strip. IsRectangleIn rect strip.rect) strip-within strips are.each;
    shown =
        All-weaker (λ (strip : Piece). IsStrip world (laid pieces) strip × (strip.kind ≢ uncovered)) (λ strip. Shows picture strip)
        (λ strip is x y here. sym (show x y (strip-inside strip x y is here)) ∙ strip-shown strip x y is.0 here) strips are.each;
    whole = λ x y here. are.whole x y (inside_world rect x y legal here) (whole x y here);
  }
