use Rattle.mls_wire.specs.LineReaders.{lines_left, script_ahead}
use Rattle.mls_wire.proofs.AheadLemmas.{SaidSoFar}
use Rattle.mls_wire.proofs.ahead.read_script.Given as goal

abbrev pub invariant-lines : goal.invariant-lines
invariant-lines g l =
    SaidSoFar (g.N.Names.book l.names) (g.R.Read.remaining l.fn.input.device) (script_ahead l.reader (g.R.Read.remaining l.input.device)) l.said.items

abbrev pub decreases-lines : goal.decreases-lines
decreases-lines g l = lines_left l.reader l.input
