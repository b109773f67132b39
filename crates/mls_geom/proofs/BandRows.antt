-- The rows between neighbouring lines are alike.
use Rattle.mls_geom.proofs.Common.{◌≡◌, ℕ, ◌<◌, ◌≤◌, nat_le, nat_lt, List, [], ◌∷◌, All, refl, arith, nat_tests, All-head, All-tail}
use Rattle.mls_geom.proofs.Definitions.{Rect, holds, laid, uncovered, Picture, overlaid, painted, AreAlike, Piece}

-- the piece neither begins nor ends between the two lines
pub record EndsOutside (bottom top : ℕ) (piece : Piece) : Type 0 where
  pub begin : bottom < piece.rect.bottom → top ≤ piece.rect.bottom
  pub end : bottom < piece.rect.top → top ≤ piece.rect.top

-- no piece does
pub record IsBand (pieces : List Piece) (bottom top : ℕ) : Type 0 where
  pub tall : bottom < top
  pub outside : All (EndsOutside bottom top) pieces

-- in a row of the band each piece has the squares that it has in the lowest, so the same shows
module _ (x y bottom top : ℕ) (from : bottom ≤ y) (to : y < top) where
  holds_alike : (piece : Piece) → EndsOutside bottom top piece → holds piece.rect x y ≡ holds piece.rect x bottom
  holds_alike piece outside =
      let same_bottom : nat_le piece.rect.bottom y ≡ nat_le piece.rect.bottom bottom = grind (arith, nat_tests) in
      let same_top : nat_lt y piece.rect.top ≡ nat_lt bottom piece.rect.top = grind (arith, nat_tests) in
      rw (same_bottom, same_top) refl

  overlaid_alike :
      (below : Picture) (pieces : List Piece) → All (EndsOutside bottom top) pieces → below x y ≡ below x bottom → overlaid below pieces x y ≡ overlaid below pieces x bottom
  overlaid_alike below [] outside same = same
  overlaid_alike below (piece ∷ pieces) outside same =
      let same_holds = holds_alike piece (All-head (EndsOutside bottom top) piece pieces outside) in
      overlaid_alike (painted below piece) pieces (All-tail (EndsOutside bottom top) piece pieces outside) (rw (same_holds, same) refl)

pub AreAlike-band : (extent : Rect) (pieces : List Piece) (bottom top : ℕ) → IsBand pieces bottom top → AreAlike extent (laid pieces) bottom top
AreAlike-band extent pieces bottom top band x y _ _ from to = overlaid_alike x y bottom top from to (λ _ _. uncovered) pieces band.outside refl
