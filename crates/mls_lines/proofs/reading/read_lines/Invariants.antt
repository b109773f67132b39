use Rattle.std.proofs.Common.{◌+◌, ◌<◌, ◌≤◌}
use Rattle.mls_seat_lines.specs.mls_wire.LineReaders.{lines_left, script_ahead}
use Rattle.mls_lines.proofs.ReadingLemmas.{IsReadTo}
use Rattle.mls_lines.proofs.reading.read_lines.Given as goal

abbrev pub invariant-lines : goal.invariant-lines
invariant-lines g l = record {
  to : IsReadTo g.N.Scripted.script (script_ahead l.reader (g.I.Read.remaining l.input.device)) l.n;
  some : 0 < l.n;
  numbered : l.n + lines_left l.reader l.input ≤ 1 + lines_left l.initial.reader l.initial.input;
}

abbrev pub decreases-lines : goal.decreases-lines
decreases-lines g l = lines_left l.reader l.input
