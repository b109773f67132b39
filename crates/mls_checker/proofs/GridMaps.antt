-- Grids as maps.
use Rattle.std.proofs.Common.{◌≡◌, ℕ, ◌-◌, ◌%◌, get_or, subst, Bool, true, false, ◌||◌, ◌&&◌, List, refl, sym, ap, ◌∙◌, arith}
use Rattle.std.specs.List.{All}
use Rattle.std.proofs.lemmas.List.Folds.{Any-from_list_any, list_any-from_Any}
use Rattle.std.proofs.lemmas.Bool.{and_parts}
use Rattle.mls_geom.specs.Rects.{holds}
use Rattle.mls_geom.proofs.Holds.{between_holds, holds_between}
use Rattle.mls_checker.specs.Grids.{Band, Grid, IsGrid, band_squares, has_column, marked_in, marked_squares}
use Rattle.mls_checker.specs.Maps.{FitsIn, Frame, IsRound, frame_area, has_place, place_of}

-- the bands of a grid lie in a frame of its rectangle that begins with it
pub bands-fit : (frame : Frame) (grid : Grid) → IsRound frame grid.rect 0 → frame.left ≡ grid.rect.left → IsGrid grid → All (λ band. FitsIn frame band.area) grid.bands
bands-fit frame grid round begins is = λ k d below.
    let inside = is.inside k d below in
    let even = is.even k d below in
    record {
      left = omega (arith, round.left, inside.left_in);
      below = omega (arith, round.below, inside.bottom_in);
      right = omega (arith, round.right, inside.right_in);
      above = omega (arith, round.above, inside.top_in);
      even = subst (λ n. ((get_or grid.bands k d).area.left - n) % 64 ≡ 0) (sym begins) even;
    }

marked-bands : (bands : List Band) (x y : ℕ) → marked_squares bands x y ≡ true → band_squares bands x y ≡ true
marked-bands bands x y marked =
    let (k, band, within, is, passes) = Any-from_list_any (λ band. marked_in band x y) bands marked in
    list_any-from_Any (λ band. holds band.area x y) bands (k, band, within, is, (and_parts (holds band.area x y) (has_column band.marked (y - band.area.bottom) (x - band.area.left)) passes).0)

outside-none : (here marked : Bool) → (marked ≡ true → here ≡ true) → (here && marked) ≡ marked
outside-none true marked in_here = refl
outside-none false true in_here = in_here refl
outside-none false false in_here = refl

laid-all : (here had marked place : Bool) → had ≡ false → (here ≡ true → place ≡ (had || marked)) → (here && place) ≡ (here && marked)
laid-all true had marked place none is = is refl ∙ ap (λ b. b || marked) none
laid-all false had marked place none is = refl

-- the map of a grid's rectangle on which its bands are laid has its marked squares
pub grid-mapped : (frame : Frame) (grid : Grid) (old new : List ℕ) (x y : ℕ) → IsRound frame grid.rect 0 → IsGrid grid → has_place old (place_of frame x y) ≡ false
    → (holds (frame_area frame) x y ≡ true → has_place new (place_of frame x y) ≡ (has_place old (place_of frame x y) || marked_squares grid.bands x y))
    → (holds grid.rect x y && has_place new (place_of frame x y)) ≡ marked_squares grid.bands x y
grid-mapped frame grid old new x y round is none laid =
    laid-all (holds grid.rect x y) (has_place old (place_of frame x y)) (marked_squares grid.bands x y) (has_place new (place_of frame x y)) none
    (λ here. let lines = holds_between grid.rect x y here in
    laid (between_holds (frame_area frame) x y (omega (arith, round.left, lines.0)) (omega (arith, round.right, lines.1)) (omega (arith, round.below, lines.2)) (omega (arith, round.above, lines.3))))
    ∙ outside-none (holds grid.rect x y) (marked_squares grid.bands x y) (λ marked. sym (is.whole x y) ∙ marked-bands grid.bands x y marked)
