use Rattle.std.proofs.Common.{◌≡◌, None, length}
use Rattle.mls_tech.specs.Readings.{read_lines}
use Rattle.mls_tech.proofs.tech.Tech.add_lines.Given as goal

abbrev pub invariant-loop-line : goal.invariant-loop-line
invariant-loop-line l = read_lines l.inside l.self l.lines.ahead ≡ read_lines None l.fn.self l.fn.lines.ahead

abbrev pub decreases-loop-line : goal.decreases-loop-line
decreases-loop-line l = length l.lines.ahead
