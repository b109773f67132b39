-- Room that is enough for more is enough for less.
use Rattle.std.proofs.Common.{ℕ, ◌≤◌, arith}
use Rattle.mls_geom.proofs.Definitions.{HasRowRoom, Row}

pub HasRowRoom-less : (row : Row) (less more : ℕ) → less ≤ more → HasRowRoom row more → HasRowRoom row less
HasRowRoom-less row less more below room = record {
  lines = omega (arith, room.lines);
  kinds = omega (arith, room.kinds);
  runs = omega (arith, room.runs);
}
