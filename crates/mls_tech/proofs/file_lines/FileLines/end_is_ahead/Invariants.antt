-- None of the lines so far was `end`.
use Rattle.std.proofs.Common.{◌≡◌, length}
use Rattle.std.specs.List.{list_any}
use Rattle.mls_tech.specs.Readings.{is_end}
use Rattle.mls_tech.proofs.file_lines.FileLines.end_is_ahead.Given as goal

abbrev pub invariant-loop-lines : goal.invariant-loop-lines
invariant-loop-lines l = list_any is_end l.fn.self.ahead ≡ list_any is_end l.lines.ahead

abbrev pub decreases-loop-lines : goal.decreases-loop-lines
decreases-loop-lines l = length l.lines.ahead
