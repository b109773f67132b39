use Rattle.std.proofs.Common.{◌≡◌, ℕ, ◌||◌, true, take}
use Rattle.mls_geom.specs.Rects.{holds}
use Rattle.mls_checker.specs.Grids.{marked_squares}
use Rattle.mls_checker.specs.Maps.{frame_area, has_place, place_of}
use Rattle.mls_checker.proofs.grid.lay_bands.Given as goal

-- the map has the marked squares of the bands so far
abbrev pub invariant-loop-band : goal.invariant-loop-band
invariant-loop-band l = (x y : ℕ) → holds (frame_area l.frame) x y ≡ true
    → has_place l.map (place_of l.frame x y) ≡ (has_place l.fn.map (place_of l.frame x y) || marked_squares (take l.band-index l.bands) x y)
