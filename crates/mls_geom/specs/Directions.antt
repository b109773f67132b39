-- Directions, and squares and rectangles that are moved in them. This project's own.
use Rattle.std.specs.Prelude.{ℕ, ◌+◌, ◌-◌, List, [], ◌∷◌}
use Rattle.mls_geom.specs.Rects.{Rect, Point, common}
use Rattle.mls_geom.specs.declared.direction.Direction.{Direction}
use Rattle.mls_geom.specs.declared.direction.Direction.TheVariants.{Right, Up, Left, Down}

-- the two directions at right angles
abbrev pub across : Direction → List Direction
across Right = Up ∷ Down ∷ []
across Up = Right ∷ Left ∷ []
across Left = Up ∷ Down ∷ []
across Down = Right ∷ Left ∷ []

-- the opposite direction
abbrev pub back : Direction → Direction
back Right = Left
back Up = Down
back Left = Right
back Down = Up

-- the one of a direction and its opposite in which coordinates grow
abbrev pub axis : Direction → Direction
axis Right = Right
axis Up = Up
axis Left = Right
axis Down = Up

-- the square n steps from q in a direction
abbrev pub moved : Direction → ℕ → Point → Point
moved Right n q = record { x = q.x + n; y = q.y }
moved Up n q = record { x = q.x; y = q.y + n }
moved Left n q = record { x = q.x - n; y = q.y }
moved Down n q = record { x = q.x; y = q.y - n }

-- the rectangle, n steps on in a direction
abbrev pub shifted : Direction → ℕ → Rect → Rect
shifted Right n e = record e { left = e.left + n; right = e.right + n }
shifted Up n e = record e { bottom = e.bottom + n; top = e.top + n }
shifted Left n e = record e { left = e.left - n; right = e.right - n }
shifted Down n e = record e { bottom = e.bottom - n; top = e.top - n }

-- the rectangle, and n squares more in a direction
abbrev pub deepened : Direction → ℕ → Rect → Rect
deepened Right n e = record e { right = e.right + n }
deepened Up n e = record e { top = e.top + n }
deepened Left n e = record e { left = e.left - n }
deepened Down n e = record e { bottom = e.bottom - n }

-- the squares of a rectangle that have the square before them in it too
abbrev pub inner_area : Direction → Rect → Rect
inner_area direction e = common (shifted direction 1 e) e

-- the squares just before a rectangle
abbrev pub front_of : Direction → Rect → Rect
front_of Right e = record e { left = e.left - 1; right = e.left }
front_of Up e = record e { bottom = e.bottom - 1; top = e.bottom }
front_of Left e = record e { left = e.right; right = e.right + 1 }
front_of Down e = record e { bottom = e.top; top = e.top + 1 }
