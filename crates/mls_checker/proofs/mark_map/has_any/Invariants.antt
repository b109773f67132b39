use Rattle.std.proofs.Common.{◌≡◌, ℕ, ◌<◌, true, false}
use Rattle.mls_geom.specs.Rects.{holds}
use Rattle.mls_checker.specs.Maps.{has_place, place_of}
use Rattle.mls_checker.proofs.mark_map.has_any.Given as goal

-- none in the rows so far
abbrev pub invariant-loop-row : goal.invariant-loop-row
invariant-loop-row l = (x y : ℕ) → holds l.fn.rect x y ≡ true → y < l.row → has_place l.words (place_of l.frame x y) ≡ false
