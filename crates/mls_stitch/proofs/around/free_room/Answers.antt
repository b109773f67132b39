-- With room for more nothing is removed.
use Rattle.mls_stitch.proofs.SortedTiles.{KeepsKeys-refl}
use Rattle.mls_stitch.proofs.around.free_room.Goals as goal

pub returns-else-capacity-len-clause-keeps : goal.returns-else-capacity-len-clause-keeps
returns-else-capacity-len-clause-keeps c = KeepsKeys-refl c.args.entries.now.items
