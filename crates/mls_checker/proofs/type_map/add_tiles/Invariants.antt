use Rattle.std.proofs.Common.{◌≡◌, ℕ, ◌||◌, true, take}
use Rattle.mls_geom.specs.Rects.{holds}
use Rattle.mls_checker.specs.Grids.{in_kinds}
use Rattle.mls_checker.specs.Maps.{frame_area, has_place, place_of}
use Rattle.mls_checker.proofs.type_map.add_tiles.Given as goal

-- the map has gained the squares of the tiles before this one
abbrev pub invariant-loop-tile : goal.invariant-loop-tile
invariant-loop-tile l = (x y : ℕ) → holds (frame_area l.fn.frame) x y ≡ true → has_place l.map (place_of l.fn.frame x y)
    ≡ (has_place l.fn.map (place_of l.fn.frame x y) || in_kinds (take l.tile-index l.tile-items) l.fn.types x y)
