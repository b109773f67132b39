-- What pieces show.
use Rattle.mls_geom.proofs.Common.{◌≡◌, ℕ, true, false, List, ◌++◌, get_or, All, arith, both_ways, false_from_ne_true}
use Rattle.mls_geom.proofs.Definitions.{Rect, IsRectangleIn, holds, empty_picture, overlaid, picture_of, Piece}
use Rattle.mls_geom.proofs.Holds.{holds_between, between_holds}
use Rattle.mls_geom.proofs.Overlays.{overlaid_append, overlaid_outside}

-- a square of a rectangle inside the extent is a square of the extent
pub holds_outer : (extent e : Rect) (x y : ℕ) → IsRectangleIn extent e → holds e x y ≡ true → holds extent x y ≡ true
holds_outer extent e x y rectangle inside =
    let between = holds_between e x y inside in
    between_holds extent x y (omega (arith, rectangle.left_in, between.0)) (omega (arith, rectangle.right_in, between.1))
    (omega (arith, rectangle.bottom_in, between.2)) (omega (arith, rectangle.top_in, between.3))

-- outside the extent there is space
pub space_outside :
    (extent : Rect) (pieces : List Piece) (x y : ℕ) → All (λ piece. IsRectangleIn extent piece.rect) pieces → holds extent x y ≡ false → picture_of pieces x y ≡ 0
space_outside extent pieces x y legal outside =
    overlaid_outside empty_picture pieces x y
    (λ k d within. false_from_ne_true _ (λ inside. both_ways (holds extent x y) outside (holds_outer extent (get_or pieces k d).rect x y (legal k d within) inside)))

-- pieces listed after those of a cover show over it
pub picture_of_both : (pieces cover over : List Piece) → pieces ≡ cover ++ over → picture_of pieces ≡ overlaid (picture_of cover) over
picture_of_both pieces cover over both = rw both (overlaid_append empty_picture cover over)
