use Rattle.std.proofs.Common.{◌≡◌, ℕ, true}
use Rattle.mls_geom.specs.Rects.{holds}
use Rattle.mls_layout.specs.Grids.{grid_kind}
use Rattle.mls_layout.proofs.Places.{rows_to}
use Rattle.mls_layout.proofs.rows.rows_have_kind.Given as goal

-- the rows so far are of the kind
abbrev pub invariant-tested : goal.invariant-tested
invariant-tested l = (x y : ℕ) → holds (rows_to l.row l.area) x y ≡ true → grid_kind l.squares l.block x y ≡ l.kind
