-- Pieces that are laid over one another on nothing, as they are listed.
use Rattle.std.proofs.Common.{◌≡◌, ◌≢◌, ◌<◌, ℕ, ℤ, ◌==◌, ◌&&◌, Bool, true, false, not, if◌then◌else◌, List, [], ◌∷◌, ◌++◌, eqb-true, arith, refl, sym, ap, ◌∙◌}
use Rattle.mls_geom.specs.Locality.{laid, uncovered}
use Rattle.mls_geom.specs.Pictures.{Picture}
use Rattle.mls_geom.specs.Rects.{Rect, holds}
use Rattle.mls_geom.specs.declared.piece.Piece.{Piece}
use Rattle.mls_geom.proofs.Overlays.{overlaid_append}
use Rattle.mls_layout.specs.Inner.{dumps}
use Rattle.mls_layout.specs.Moves.{is_moved}

-- the last piece lies over those before it
pub laid-more : (pieces : List Piece) (piece : Piece) (x y : ℕ) → laid (pieces ++ piece ∷ []) x y ≡ (if holds piece.rect x y then piece.kind else laid pieces x y)
laid-more pieces piece x y = ap (λ (p : Picture). p x y) (overlaid_append (λ x y. uncovered) pieces (piece ∷ []))

dumped : (moved zero : Bool) (kind below : ℕ) → zero ≡ false → (if moved then kind else below) ≡ (if moved && not zero then kind else below)
dumped true true kind below some = absurd (cc some)
dumped true false kind below some = refl
dumped false zero kind below some = refl

-- where it is the part of a piece that isn't space, moved, the piece is dumped
pub laid-dumped :
    (pieces : List Piece) (piece : Piece) (part : Rect) (dx dy : ℤ) (x y : ℕ) → piece.kind ≢ 0 → holds part x y ≡ is_moved piece.rect dx dy x y
    → laid (pieces ++ record { rect = part; kind = piece.kind } ∷ []) x y ≡ (if dumps piece dx dy x y then piece.kind else laid pieces x y)
laid-dumped pieces piece part dx dy x y some here =
    laid-more pieces (record { rect = part; kind = piece.kind }) x y ∙ ap (λ (b : Bool). if b then piece.kind else laid pieces x y) here
    ∙ dumped (is_moved piece.rect dx dy x y) (piece.kind == 0) piece.kind (laid pieces x y) (by (piece.kind == 0) refl)
  where
    by : (zero : Bool) → (piece.kind == 0) ≡ zero → zero ≡ false
    by true at = absurd (some (eqb-true piece.kind 0 at))
    by false at = refl

-- what is covered stays covered under one piece more, whose kind fits a byte
pub laid-covered : (pieces : List Piece) (piece : Piece) (x y : ℕ) → piece.kind < uncovered → laid pieces x y ≢ uncovered → laid (pieces ++ piece ∷ []) x y ≢ uncovered
laid-covered pieces piece x y kind some is = by (holds piece.rect x y) refl
  where
    more : (if holds piece.rect x y then piece.kind else laid pieces x y) ≡ uncovered
    more = sym (laid-more pieces piece x y) ∙ is

    by : (here : Bool) → holds piece.rect x y ≡ here → ⊥
    by true at = let same : piece.kind ≡ uncovered = sym (ap (λ (b : Bool). if b then piece.kind else laid pieces x y) at) ∙ more in omega (arith, kind, same)
    by false at = some (sym (ap (λ (b : Bool). if b then piece.kind else laid pieces x y) at) ∙ more)
