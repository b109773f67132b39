-- The planes of a cell show the layout that its rectangles do.
use Rattle.std.proofs.Common.{◌≡◌, ℕ, zero, suc, ◌<◌, ◌≤◌, ◌==◌, false, List, [], ◌∷◌, length, get_or, All, refl, sym, ap, arith}
use Rattle.std.proofs.Math.Path.{fun_ext}
use Rattle.std.proofs.lemmas.Bool.Decides.{nat_tests}
use Rattle.mls_geom.specs.Layouts.{Layout}
use Rattle.mls_geom.specs.Pictures.{empty_picture, picture_of}
use Rattle.mls_tilepool.specs.Pools.{Pool}
use Rattle.mls_paint.specs.Planes.{layout_in, picture_in}
use Rattle.mls_library.specs.CellFiles.{layout_of_rects, pieces_on}
use Rattle.mls_library.specs.declared.cell_rect.CellRect.{CellRect}

-- planes that show those of a layout, beyond which it is space
layout_in-at : (pool : Pool) (owners : List ℕ) (layout : Layout)
    → ((k d : ℕ) → k < length owners → picture_in pool (get_or owners k d) ≡ layout k)
    → ((k : ℕ) → length owners ≤ k → layout k ≡ empty_picture) → (plane : ℕ) → layout_in pool owners plane ≡ layout plane
layout_in-at pool [] layout each beyond plane = sym (beyond plane (omega arith))
layout_in-at pool (owner ∷ owners) layout each beyond zero = each 0 owner (omega arith)
layout_in-at pool (owner ∷ owners) layout each beyond (suc plane) =
    layout_in-at pool owners (λ k. layout (suc k))
    (λ k d within. each (suc k) d (omega (arith, within)))
    (λ k past. beyond (suc k) (omega (arith, past)))
    plane

-- nothing is painted on a plane that no rectangle has
pieces_on-beyond : (planes plane : ℕ) (rects : List CellRect) → All (λ painted. painted.plane < planes) rects → planes ≤ plane → pieces_on plane rects ≡ []
pieces_on-beyond planes plane [] known past = refl
pieces_on-beyond planes plane (rect ∷ rects) known past =
    let other : (rect.plane == plane) ≡ false = let below : rect.plane < planes = known 0 rect (omega arith) in grind (arith, nat_tests, below, past) in
    rw other (pieces_on-beyond planes plane rects (λ k d within. known (suc k) d (omega (arith, within))) past)

pub layout_in-rects :
    (pool : Pool) (owners : List ℕ) (rects : List CellRect) → All (λ painted. painted.plane < length owners) rects
    → ((k d : ℕ) → k < length owners → picture_in pool (get_or owners k d) ≡ layout_of_rects rects k) → layout_in pool owners ≡ layout_of_rects rects
layout_in-rects pool owners rects known each =
    fun_ext (layout_in-at pool owners (layout_of_rects rects) each (λ k past. ap picture_of (pieces_on-beyond (length owners) k rects known past)))
