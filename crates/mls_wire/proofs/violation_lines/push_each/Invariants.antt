use Rattle.std.proofs.Common.{◌≡◌, ◌≤◌, ◌++◌, take, vec_capacity}
use Rattle.std.specs.List.{flat_map}
use Rattle.mls_wire.specs.Replies.{violation_text}
use Rattle.mls_wire.proofs.violation_lines.push_each.Given as goal

-- the lines of the rules so far
abbrev pub invariant-loop-violation : goal.invariant-loop-violation
invariant-loop-violation g l = record {
  text : l.out.items ≡ l.fn.out.items ++ flat_map (violation_text (g.N.Names.book l.names)) (take l.violation-index l.found);
  capacity : vec_capacity l.fn.out ≤ vec_capacity l.out;
}
