use Rattle.mls_layout.proofs.AlikePlanes.{alike-found, one_kind-found-alike}
use Rattle.mls_layout.proofs.alike.are_alike.Goals as goal

pub returns-in-len1-up : goal.returns-in-len1-up
returns-in-len1-up c = λ yes pool owner plane are.
    one_kind-found-alike pool owner c.args.likeness c.args.area c.args.tiles.now c.tile-item.result.piece.kind plane c.lies_in_world.ensures are (c.have_kind.ensures yes)

pub returns-in-Columns : goal.returns-in-Columns
returns-in-Columns c = λ yes pool owner plane are.
    alike-found pool owner c.args.likeness c.args.area c.args.tiles.now plane c.lies_in_world.ensures are (c.all_span.ensures yes)
