use Rattle.std.proofs.Common.{◌≡◌, ℕ, ◌||◌, ◌&&◌, nat_lt, true}
use Rattle.mls_geom.specs.Rects.{holds}
use Rattle.mls_kinds.specs.KindSets.{has_bit}
use Rattle.mls_checker.specs.Copies.{copied_layout}
use Rattle.mls_checker.specs.Maps.{frame_area, has_place, place_of}
use Rattle.mls_checker.proofs.type_map.Shown.add_types.Given as goal

-- the map has gained the squares of the kinds before this one
abbrev pub invariant-loop-number : goal.invariant-loop-number
invariant-loop-number l = (x y : ℕ) → holds (frame_area l.fn.self.frame) x y ≡ true → has_place l.map (place_of l.fn.self.frame x y)
    ≡ (has_place l.fn.map (place_of l.fn.self.frame x y)
    || (nat_lt (copied_layout l.fn.self.snapshot.now l.fn.plane x y) l.number && has_bit l.fn.types (copied_layout l.fn.self.snapshot.now l.fn.plane x y)))
