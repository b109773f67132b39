-- Layouts: for each plane a picture (Ousterhout 1984: a plane is covered completely).
use Rattle.std.specs.Prelude.{ℕ}
use Rattle.mls_geom.specs.Rects.{Point}
use Rattle.mls_geom.specs.Pictures.{Picture}

-- the kind of the square at each column and row of each plane; 0 is space
abbrev pub Layout : Type 0
Layout = ℕ → Picture

-- the kind of a square of a plane
abbrev pub type_at : Layout → ℕ → Point → ℕ
type_at layout plane at = layout plane at.x at.y
