use Rattle.std.proofs.Common.{◌<◌, ◌≤◌, ℕ}
use Rattle.mls_checker.specs.MarkMaps.{mapped}
use Rattle.mls_checker.specs.MarkRuns.{IsRowRun}
use Rattle.mls_checker.proofs.runs.end_of_rise.Given as goal

-- the rows before this one have the run
abbrev pub invariant-loop-other : goal.invariant-loop-other
invariant-loop-other l = (y : ℕ) → l.row ≤ y → y < l.other → IsRowRun (mapped l.map) y l.left l.right
