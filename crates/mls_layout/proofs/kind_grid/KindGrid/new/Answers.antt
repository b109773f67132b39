use Rattle.mls_layout.specs.Grids.{grid_size}
use Rattle.mls_layout.proofs.Places.{new-grid}
use Rattle.mls_layout.proofs.kind_grid.KindGrid.new.Goals as goal

pub returns : goal.returns
returns c block = new-grid c.in_ok-squares.squares.items grid_size block (c.in_ok-squares.ensures.items_if_clones_equal (λ y is. is))
