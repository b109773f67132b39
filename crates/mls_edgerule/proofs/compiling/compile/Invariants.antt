use Rattle.std.proofs.Common.{◌≡◌, drop}
use Rattle.mls_edgerule.specs.Compiling.{compiled}
use Rattle.mls_edgerule.proofs.CompiledLines.{continued}
use Rattle.mls_edgerule.proofs.compiling.compile.Given as goal

abbrev pub invariant-loop-line : goal.invariant-loop-line
invariant-loop-line l = continued l.tech l.rules (drop l.line-index l.lines) ≡ compiled l.tech
