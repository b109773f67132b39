-- Room for a row.
use Rattle.std.specs.Prelude.{ℕ, ◌+◌, ◌*◌, ◌≤◌, vec_capacity}
use Rattle.mls_geom.specs.declared.row.Row.{Row}

-- a row of this many pieces fits: each piece has two lines, and so has the world
pub record HasRowRoom (row : Row) (pieces : ℕ) : Type 0 where
  pub lines : 2 * pieces + 2 ≤ vec_capacity row.lines
  pub kinds : 2 * pieces + 2 ≤ vec_capacity row.kinds
  pub runs : 2 * pieces + 2 ≤ vec_capacity row.runs
