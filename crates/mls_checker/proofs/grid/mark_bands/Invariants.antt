use Rattle.mls_checker.specs.Grids.{TurnFirst, either_in, none_in}
use Rattle.mls_checker.proofs.grid.mark_bands.Given as goal

abbrev pub invariant-loop-band : goal.invariant-loop-band
invariant-loop-band l = TurnFirst none_in either_in l.fn.bands l.bands l.band-index
