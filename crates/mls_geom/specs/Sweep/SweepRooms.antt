-- Room for a sweep.
use Rattle.std.specs.Prelude.{ℕ, ◌+◌, ◌*◌, ◌≤◌, vec_capacity}
use Rattle.mls_geom.specs.Sweep.RowRooms.{HasRowRoom}
use Rattle.mls_geom.specs.declared.sweep.Buffers.{Buffers}

-- a sweep over this many pieces fits: each piece has two lines, and so has the world
pub record HasSweepRoom (buffers : Buffers) (room : ℕ) : Type 0 where
  pub lines : 2 * room + 2 ≤ vec_capacity buffers.lines
  pub starts : room ≤ vec_capacity buffers.starts
  pub active : room ≤ vec_capacity buffers.active
  pub row : HasRowRoom buffers.row room
  pub below : 2 * room + 2 ≤ vec_capacity buffers.below
  pub strips : room ≤ vec_capacity buffers.strips
