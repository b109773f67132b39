use Rattle.std.proofs.Common.{refl}
use Rattle.mls_geom.specs.World.{world}
use Rattle.mls_errorplane.proofs.ToldSquares.{Tells-columns, Tells-rows}
use Rattle.mls_errorplane.proofs.checked.Checked.source_of.Goals as goal

pub returns-then-is_beside-clause-tells : goal.returns-then-is_beside-clause-tells
returns-then-is_beside-clause-tells c =
    let lines = c.if-is_beside.ensures refl in
    Tells-rows world c.args.self.now.last c.args.rect c.lies_in_world.ensures (lines.1, lines.2)

pub returns-then-is_above-clause-tells : goal.returns-then-is_above-clause-tells
returns-then-is_above-clause-tells c = Tells-columns world c.args.self.now.row c.args.rect c.lies_in_world-2.ensures (c.if-is_above.ensures refl)
