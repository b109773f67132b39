-- Pieces that a later one hides.
use Rattle.mls_geom.proofs.Common.{◌≡◌, ℕ, zero, suc, ◌<◌, ◌⊎◌, true, List, [], ◌∷◌, ◌++◌, Any, inl, inr, refl, sym, ap, ◌∙◌, reverse, suc-le-suc, arith, fun_ext, cases_Bool, reverse-append, All-cons}
use Rattle.mls_geom.proofs.Definitions.{HaveKinds, uncovered, Picture, overlaid, painted, Rect, IsRectangleIn, IsWithin, holds, ShowAlike, AreLegal, world, Piece}
use Rattle.mls_geom.proofs.InnerRects.{IsRectangleIn-within}
use Rattle.mls_geom.proofs.Overlays.{overlaid-at, overlaid_append, painted_outside}
use Rattle.mls_geom.proofs.PiecePictures.{holds_outer}
use Rattle.mls_geom.proofs.TouchedStrips.{overlaid_alike}

-- what lies under a piece does not show
hidden_at :
    (below : Picture) (piece : Piece) (pieces : List Piece) (x y : ℕ) → (holds piece.rect x y ≡ true → Any (λ p. holds p.rect x y ≡ true) pieces)
    → overlaid (painted below piece) pieces x y ≡ overlaid below pieces x y
hidden_at below piece pieces x y under = elim (cases_Bool (holds piece.rect x y)) [
  | inl here ↦ overlaid_alike (painted below piece) below pieces x y (under here)
  | inr away ↦ overlaid-at (painted below piece) below pieces x y (painted_outside below piece x y away)
]

-- a piece that lies inside a later one may be left out
pub hidden_pieces_show_nothing :
    (below : Picture) (piece : Piece) (before later : List Piece) → Any (λ other. IsRectangleIn other.rect piece.rect) later
    → overlaid below (before ++ piece ∷ later) ≡ overlaid below (before ++ later)
hidden_pieces_show_nothing below piece before later (k, other, within, is, inside) =
    overlaid_append below before (piece ∷ later)
    ∙ fun_ext (λ x. fun_ext (λ y. hidden_at (overlaid below before) piece later x y (λ here. (k, other, within, is, holds_outer other.rect piece.rect x y inside here))))
    ∙ sym (overlaid_append below before later)

-- a list, the last piece first, shows what pieces of the world show, of which the greatest is this area if there is one
pub record HasShown (pieces : List Piece) (greatest : Rect) (shown : List Piece) : Type 0 where
  pub alike : ShowAlike (reverse shown) pieces
  pub over : (greatest.right < greatest.left) ⊎ Any (λ piece. piece.rect ≡ greatest) pieces
  pub legal : AreLegal pieces
  pub kinds : HaveKinds pieces

-- one piece more is listed
pub HasShown-listed :
    (piece : Piece) (pieces shown : List Piece) (greatest new : Rect) → IsRectangleIn world piece.rect → piece.kind < uncovered
    → (new ≡ piece.rect) ⊎ (new ≡ greatest) → HasShown pieces greatest shown → HasShown (piece ∷ pieces) new (shown ++ piece ∷ [])
HasShown-listed piece pieces shown greatest new legal kind which so_far = record {
  alike = λ below. ap (overlaid below) (reverse-append shown (piece ∷ [])) ∙ so_far.alike (painted below piece);
  over = elim which [
    | inl is ↦ inr (zero, piece, omega arith, refl, sym is)
    | inr old ↦ elim so_far.over [
      | inl none ↦ inl (rw old none)
      | inr (k, other, within, is, same) ↦ inr (suc k, other, suc-le-suc within, is, same ∙ sym old)
    ]
  ];
  legal = All-cons (λ piece. IsRectangleIn world piece.rect) piece pieces legal so_far.legal;
  kinds = All-cons (λ piece. piece.kind < uncovered) piece pieces kind so_far.kinds;
}

-- one piece more lies inside the greatest one
pub HasShown-hidden :
    (piece : Piece) (pieces shown : List Piece) (greatest : Rect) → IsRectangleIn world piece.rect → piece.kind < uncovered → IsWithin greatest piece.rect
    → HasShown pieces greatest shown → HasShown (piece ∷ pieces) greatest shown
HasShown-hidden piece pieces shown greatest legal kind inside so_far = elim so_far.over [
  | inl none ↦ absurd (omega (arith, none, inside.left, inside.right, legal.wide))
  | inr (k, other, within, is, same) ↦
      let held : IsRectangleIn other.rect piece.rect = rw same (IsRectangleIn-within greatest world piece.rect inside legal) in
      record {
        alike = λ below. so_far.alike below ∙ sym (hidden_pieces_show_nothing below piece [] pieces (k, other, within, is, held));
        over = inr (suc k, other, suc-le-suc within, is, same);
        legal = All-cons (λ piece. IsRectangleIn world piece.rect) piece pieces legal so_far.legal;
        kinds = All-cons (λ piece. piece.kind < uncovered) piece pieces kind so_far.kinds;
      }
]
