use Rattle.mls_library.proofs.FoundCells.{IsFrozen-found}
use Rattle.mls_layout.proofs.going_on.use_goes_on_to.Goals as goal

pub cell_goes_on_to-requires : goal.cell_goes_on_to-requires
cell_goes_on_to-requires c =
    IsFrozen-found c.args.workspace.now.pool c.args.uses.now.library.now c.args.cell_use.now.cell c.in-Some.cell.now.planes c.requires c.in-Some.ensures.planes
