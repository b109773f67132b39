use Rattle.std.proofs.Common.{ap, ◌∙◌, arith}
use Rattle.std.proofs.lemmas.List.{take_all}
use Rattle.mls_checker.specs.FlatZones.{found_tiles}
use Rattle.mls_checker.specs.Tiles.{outer}
use Rattle.mls_checker.proofs.zone_tiles.found_tiles.Goals as goal

pub returns : goal.returns
returns g c = c.loop-one.invariant ∙ ap (found_tiles g.F.AsPiece.piece_of outer c.args.zone) (take_all c.loop-one.one-index c.args.found.now (omega arith))
