use Rattle.std.proofs.Common.{arith}
use Rattle.std.proofs.lemmas.Int.{ints, to_z-of_z}
use Rattle.mls_layout.proofs.MovedParts.{IsPartOf-moved_back}
use Rattle.mls_layout.proofs.moves.part_moved_into.Goals as goal

pub returns : goal.returns
returns c =
    let along = c.ranges.dx in
    let up = c.ranges.dy in
    let part = simp to_z-of_z at c.part_moved_by.ensures in
    IsPartOf-moved_back c.args.rect c.args.extent c.args.dx c.args.dy _ _ c.part_moved_by.result (omega (arith, ints)) (omega (arith, ints)) part
