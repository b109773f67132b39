use Rattle.std.proofs.Common.{length}
use Rattle.mls_layout.specs.Grids.{GainArea, grid_picture}
use Rattle.mls_layout.proofs.Places.{rows_to}
use Rattle.mls_layout.proofs.kind_grid.KindGrid.push_pieces.Given as goal

-- the pieces cover the rows so far
abbrev pub invariant-loop-row : goal.invariant-loop-row
invariant-loop-row l = GainArea l.fn.block (grid_picture l.self l.fn.block) (length l.fn.out.items) (rows_to l.row l.fn.block) l.fn.out.items l.out.items
