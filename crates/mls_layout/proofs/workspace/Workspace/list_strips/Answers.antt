use Rattle.std.proofs.Common.{ap, length, arith}
use Rattle.mls_layout.proofs.ListedTiles.{listed-few}
use Rattle.mls_layout.proofs.workspace.Workspace.list_strips.Goals as goal

pub list_pieces_of-requires : goal.list_pieces_of-requires
list_pieces_of-requires c =
    let pool = c.args.self.now.pool in
    let tiles = c.strips_of.new.scratch.tiles in
    let few = listed-few pool c.args.plane.now tiles c.requires.strips c.strips_of.ensures.strips c.keeps_within_reserve.ensures c.requires.plane_fits in
    let room = c.args.self.now.rooms.list in
    record { room = omega (arith, ap length c.tiles.ensures, few, room) }
