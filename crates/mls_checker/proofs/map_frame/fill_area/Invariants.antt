use Rattle.std.proofs.Common.{◌≡◌, ℕ, ◌-◌, ◌/◌, ◌||◌, ◌&&◌, nat_lt, true}
use Rattle.mls_geom.specs.Rects.{common, holds}
use Rattle.mls_checker.specs.Maps.{frame_area, has_place, place_of}
use Rattle.mls_checker.proofs.map_frame.fill_area.Given as goal

-- the words of the part before this one have been added
abbrev pub invariant-loop-word : goal.invariant-loop-word
invariant-loop-word l = (x y : ℕ) → holds (frame_area l.fn.frame) x y ≡ true → has_place l.map (place_of l.fn.frame x y)
    ≡ (has_place l.fn.map (place_of l.fn.frame x y) || (nat_lt ((x - l.fn.frame.left) / 64) l.word && holds (common l.area (frame_area l.fn.frame)) x y))
