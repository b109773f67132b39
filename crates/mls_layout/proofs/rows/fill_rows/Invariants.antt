use Rattle.std.proofs.Common.{◌≡◌, length}
use Rattle.mls_layout.specs.Grids.{grid_size}
use Rattle.mls_layout.proofs.Places.{HasFilled, rows_to}
use Rattle.mls_layout.proofs.rows.fill_rows.Given as goal

-- the rows so far are filled
abbrev pub invariant-rows : goal.invariant-rows
invariant-rows l = record {
  size : length l.squares ≡ grid_size;
  filled : HasFilled l.block (rows_to l.row l.area) l.kind l.fn.squares l.squares;
}
