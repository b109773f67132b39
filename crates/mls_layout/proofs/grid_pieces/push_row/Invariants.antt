use Rattle.std.proofs.Common.{◌-◌}
use Rattle.mls_layout.specs.Grids.{grid_picture}
use Rattle.mls_layout.proofs.Covers.{HasColumns}
use Rattle.mls_layout.proofs.grid_pieces.push_row.Given as goal

-- the pieces cover the columns so far of the row
abbrev pub invariant-runs : goal.invariant-runs
invariant-runs l = HasColumns l.block (grid_picture l.squares l.block) l.first l.row l.left l.fn.out.items l.out.items

abbrev pub decreases-runs : goal.decreases-runs
decreases-runs l = l.block.right - l.left
