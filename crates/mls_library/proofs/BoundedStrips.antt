-- The smallest rectangle round the squares of pieces that aren't space, one piece more at a time, and round the strips of a picture.
use Rattle.std.proofs.Common.{◌≡◌, ◌≢◌, Bool, true, false, ℕ, ◌+◌, ◌<◌, ◌==◌, ◌&&◌, ◌||◌, not, Some, None, List, [], ◌∷◌, ◌++◌, get_or, length, ne_eqb, take, refl, sym, ap, subst, ◌∙◌}
use Rattle.std.proofs.Math.Bool.{and-false, and-true, or-false}
use Rattle.std.proofs.lemmas.Bool.{and_from, and_parts}
use Rattle.std.proofs.lemmas.Bool.Decides.{same_from_decides}
use Rattle.std.proofs.lemmas.List.{take_more}
use Rattle.std.proofs.lemmas.List.Folds.{Any-from_list_any, list_any-append, list_any-from_Any}
use Rattle.mls_geom.specs.Locality.{AreUnorderedStrips}
use Rattle.mls_geom.specs.Pictures.{Picture}
use Rattle.mls_geom.specs.Rects.{IsRectangleIn, holds}
use Rattle.mls_geom.specs.World.{world}
use Rattle.mls_geom.specs.declared.piece.Piece.{Piece}
use Rattle.mls_geom.proofs.StripPictures.{kind-IsStrip}
use Rattle.mls_library.specs.Bounds.{are_painted, bounds_of, round_both}
use Rattle.mls_library.proofs.SmallestRects.{bounds_of-either, bounds_of-none, bounds_of-rect, either, same_squares}

-- the square is one of the piece's and isn't space
abbrev paints : Piece → ℕ → ℕ → Bool
paints piece x y = holds piece.rect x y && not (piece.kind == 0)

-- ---- round one piece
paints-rect : (piece : Piece) → IsRectangleIn world piece.rect → piece.kind ≢ 0 → bounds_of (paints piece) ≡ Some piece.rect
paints-rect piece legal some =
    same_squares (paints piece) (holds piece.rect) (λ x y inside.
    let there = holds piece.rect x y in
    ap (λ b. there && b) (ap not (ne_eqb piece.kind 0 some)) ∙ and-true there)
    ∙ bounds_of-rect piece.rect legal

paints-space : (piece : Piece) → piece.kind ≡ 0 → (x y : ℕ) → paints piece x y ≡ false
paints-space piece space x y =
    let there = holds piece.rect x y in
    ap (λ kind. there && not (kind == 0)) space ∙ and-false there

-- ---- round the pieces before the next one
pub bounds_of-no_pieces : bounds_of (are_painted []) ≡ None
bounds_of-no_pieces = bounds_of-none (are_painted []) (λ x y. refl)

module _ (list : List Piece) (i : ℕ) (piece : Piece) (within : i < length list) (is : piece ≡ get_or list i piece) where
  are_painted-next : (x y : ℕ) → are_painted (take (i + 1) list) x y ≡ (are_painted (take i list) x y || paints piece x y)
  are_painted-next x y =
      ap (λ pieces. are_painted pieces x y) (take_more list i piece within ∙ ap (λ t. take i list ++ t ∷ []) (sym is))
      ∙ list_any-append (λ t. paints t x y) (take i list) (piece ∷ [])
      ∙ ap (λ last. are_painted (take i list) x y || last) (or-false (paints piece x y))

  pub bounds_of-next : IsRectangleIn world piece.rect → piece.kind ≢ 0 → bounds_of (are_painted (take (i + 1) list)) ≡ round_both (bounds_of (are_painted (take i list))) (Some piece.rect)
  bounds_of-next legal some =
      same_squares (are_painted (take (i + 1) list)) (either (are_painted (take i list)) (paints piece)) (λ x y inside. are_painted-next x y)
      ∙ bounds_of-either (are_painted (take i list)) (paints piece)
      ∙ ap (round_both (bounds_of (are_painted (take i list)))) (paints-rect piece legal some)

  pub bounds_of-same : piece.kind ≡ 0 → bounds_of (are_painted (take (i + 1) list)) ≡ bounds_of (are_painted (take i list))
  bounds_of-same space =
      same_squares (are_painted (take (i + 1) list)) (are_painted (take i list)) (λ x y inside.
      are_painted-next x y ∙ ap (λ last. are_painted (take i list) x y || last) (paints-space piece space x y) ∙ or-false (are_painted (take i list) x y))

-- ---- where the pieces are the strips of a picture
module _ (picture : Picture) (list : List Piece) (strips : AreUnorderedStrips world picture list) (x y : ℕ) (inside : holds world x y ≡ true) where
  to_picture : are_painted list x y ≡ true → not (picture x y == 0) ≡ true
  to_picture painted =
      let (k, piece, within, is, here) = Any-from_list_any (λ t. paints t x y) list painted in
      let at = and_parts (holds piece.rect x y) (not (piece.kind == 0)) here in
      let strip = subst (λ p. holds p.rect x y ≡ true → p.kind ≡ picture x y) is (kind-IsStrip world picture (get_or list k piece) x y (strips.each k piece within)) in
      ap (λ kind. not (kind == 0)) (sym (strip at.0)) ∙ at.1

  from_picture : not (picture x y == 0) ≡ true → are_painted list x y ≡ true
  from_picture some =
      let (k, piece, within, is, here) = strips.whole x y inside in
      let strip = subst (λ p. holds p.rect x y ≡ true → p.kind ≡ picture x y) is (kind-IsStrip world picture (get_or list k piece) x y (strips.each k piece within)) in
      let kind = ap (λ kind. not (kind == 0)) (strip here) ∙ some in
      list_any-from_Any (λ t. paints t x y) list (k, piece, within, is, and_from (holds piece.rect x y) (not (piece.kind == 0)) here kind)

  pub are_painted-strips : are_painted list x y ≡ not (picture x y == 0)
  are_painted-strips =
      same_from_decides {P = not (picture x y == 0) ≡ true} (are_painted list x y) (not (picture x y == 0)) (to_picture, from_picture) (λ h. h, λ h. h)
