use Rattle.std.proofs.Common.{◌≡◌, ◌*◌, ◌^◌, ◌≤◌, length, take}
use Rattle.std.specs.List.{sum_by}
use Rattle.mls_wire.proofs.violation_lines.count_strips.Given as goal

-- the strips of the rules so far
abbrev pub invariant-loop-violation : goal.invariant-loop-violation
invariant-loop-violation l = record {
  strips : l.strips ≡ sum_by (λ violation. length violation.strips) (take l.violation-index l.found);
  few : l.strips ≤ l.violation-index * 2 ^ 64;
}
