-- The kept row has reached the world's top line, so its strips are whole.
use Rattle.std.proofs.lemmas.Result.{on_ok_weaker}
use Rattle.mls_geom.specs.Locality.{laid}
use Rattle.mls_geom.proofs.KeptStrips.{AreCoveredStrips-kept}
use Rattle.mls_geom.proofs.kept_sweep.KeptSweep.find_strips.Goals as goal

pub plant-requires-clause-between : goal.plant-requires-clause-between
plant-requires-clause-between c = rw c.deref-2.ensures.value c.in_ok-begin.ensures.between

pub sweep_bands-requires-clause-kept : goal.sweep_bands-requires-clause-kept
sweep_bands-requires-clause-kept c = c.begin.ensures.kept (laid c.args.pieces.now)

pub returns-clause-strips : goal.returns-clause-strips
returns-clause-strips c = on_ok_weaker _ (AreCoveredStrips-kept (laid c.args.pieces.now) _ _) c.sweep_bands.ensures.kept
