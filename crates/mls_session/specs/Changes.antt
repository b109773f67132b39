-- What erasing and dumping make of a picture, square by square. This project's own.
use Rattle.std.specs.Prelude.{ℕ, ℤ, pos, ◌+ℤ◌, ◌==◌, int_le, int_lt, Bool, not, ◌&&◌, if◌then◌else◌}
use Rattle.std.specs.List.{list_any, range_with_len}
use Rattle.mls_session.specs.Common.{Layout, Picture, Rect, columns, holds, moved_picture, rows, world}
use Rattle.mls_kinds.specs.KindSets.{has_bit as has_type}

-- the picture with space in the squares of the rectangle that have one of these kinds
abbrev pub erased : Picture → Rect → ℕ → Picture
erased below e kinds x y = if holds e x y && has_type kinds (below x y) then 0 else below x y

-- the picture with the squares of another one, moved, that aren't space, painted over it
abbrev pub dumped : Picture → Picture → ℤ → ℤ → Picture
dumped below over dx dy x y = if moved_picture over dx dy x y == 0 then below x y else moved_picture over dx dy x y

-- the world has the square at this column and row
abbrev pub world_has : ℤ → ℤ → Bool
world_has x y = int_le (pos world.left) x && int_lt x (pos world.right) && int_le (pos world.bottom) y && int_lt y (pos world.top)

-- some square of the world that isn't space leaves the world as it is moved
unfoldable pub leaves_world : Picture → ℤ → ℤ → Bool
leaves_world picture dx dy =
    list_any (λ y. list_any (λ x. not (picture x y == 0) && not (world_has (pos x +ℤ dx) (pos y +ℤ dy))) (columns world)) (rows world)

-- so does one of the first planes of a layout
abbrev pub layout_leaves_world : ℕ → Layout → ℤ → ℤ → Bool
layout_leaves_world planes layout dx dy = list_any (λ plane. leaves_world (layout plane) dx dy) (range_with_len 0 planes)
