-- The text so far stands in front of the lines ahead, and those have fewer bytes.
use Rattle.std.proofs.Common.{◌≡◌, ◌+◌, ◌≤◌, length}
use Rattle.mls_tech.specs.FileLines.{joined_from, joined_to}
use Rattle.mls_text.specs.Lines.{raw_lines}
use Rattle.mls_tech.proofs.joined_lines.read_line.Given as goal

abbrev pub invariant-loop-raw : goal.invariant-loop-raw
invariant-loop-raw l = record {
  joined : joined_from l.number (raw_lines l.bytes) ≡ joined_to l.number l.line.items (joined_from l.next (raw_lines l.rest));
  fits : l.next + length l.rest ≤ l.number + length l.bytes;
  shrinks : length l.rest ≤ length l.bytes;
}

abbrev pub decreases-loop-raw : goal.decreases-loop-raw
decreases-loop-raw l = length l.rest
