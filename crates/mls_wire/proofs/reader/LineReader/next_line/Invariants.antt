-- What came so far is the beginning of a line.
use Rattle.std.proofs.Common.{◌≡◌, ◌≤◌, ◌⊎◌}
use Rattle.mls_text.specs.Lines.{IsUnbroken}
use Rattle.mls_wire.specs.LineReaders.{script_ahead, lines_left}
use Rattle.mls_wire.proofs.NextLineLemmas.{HasCome}
use Rattle.mls_wire.proofs.reader.LineReader.next_line.Given as goal

abbrev pub invariant-chunks : goal.invariant-chunks
invariant-chunks g l =
    let remaining = g.R.Read.remaining in
    record {
      came : HasCome (script_ahead l.fn.self (remaining l.fn.input.device)) (script_ahead l.self (remaining l.input.device)) l.self.line;
      needed : IsUnbroken l.fn.self.ahead ⊎ ((l.input ≡ l.fn.input) × (l.self.ahead ≡ l.fn.self.ahead));
      lines : lines_left l.self l.input ≤ lines_left l.fn.self l.fn.input;
      calls : l.input.calls_left ≤ l.fn.input.calls_left;
      failed : l.input.failed ≡ l.fn.input.failed;
    }

abbrev pub decreases-chunks : goal.decreases-chunks
decreases-chunks g l = l.input.calls_left
