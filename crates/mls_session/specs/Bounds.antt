-- Where a dump moves the smallest rectangle round the squares of a cell that aren't space. This project's own.
use Rattle.std.specs.Prelude.{ℕ, ℤ, pos, ◌+ℤ◌, ◌-ℤ◌, Option, Some, None, Result, Ok, Err, option_and_then}
use Rattle.mls_session.specs.Common.{Layout, Rect, RectFault, origin, painted_bounds, rect_of}

abbrev pub or_none : Result Rect RectFault → Option Rect
or_none (Ok rect) = Some rect
or_none (Err fault) = None

-- a line of the world moved by z, as users count it
abbrev pub moved_line : ℕ → ℤ → ℤ
moved_line line z = pos line -ℤ pos origin +ℤ z

-- the rectangle moved to the right by dx and up by dy, if the world has it there
unfoldable pub moved_rect : Rect → ℤ → ℤ → Option Rect
moved_rect rect dx dy = or_none (rect_of (moved_line rect.left dx) (moved_line rect.bottom dy) (moved_line rect.right dx) (moved_line rect.top dy))

-- the smallest rectangle round the squares of the first planes that aren't space, moved to the right by dx and up by dy, if the world has it there
abbrev pub dumped_rect : ℕ → Layout → ℤ → ℤ → Option Rect
dumped_rect planes cell dx dy = option_and_then (λ bounds. moved_rect bounds dx dy) (painted_bounds planes cell)
