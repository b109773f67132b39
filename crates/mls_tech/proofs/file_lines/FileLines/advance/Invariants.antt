-- Only lines without content were skipped.
use Rattle.std.proofs.Common.{◌≡◌, ◌+◌, ◌^◌, ◌<◌, length}
use Rattle.std.specs.List.{filter}
use Rattle.mls_tech.specs.FileLines.{has_content, joined_from}
use Rattle.mls_text.specs.Lines.{raw_lines}
use Rattle.mls_tech.proofs.file_lines.FileLines.advance.Given as goal

abbrev pub invariant-loop-number : goal.invariant-loop-number
invariant-loop-number l = record {
  ahead : l.fn.self.ahead ≡ filter has_content (joined_from l.self-inside.number (raw_lines l.self-inside.rest.now));
  fits : l.self-inside.number + length l.self-inside.rest.now < 2 ^ 64;
}

abbrev pub decreases-loop-number : goal.decreases-loop-number
decreases-loop-number l = length l.self-inside.rest.now
