use Rattle.std.proofs.Common.{◌≡◌, ◌≤◌, ◌++◌, take, vec_capacity}
use Rattle.std.specs.List.{flat_map}
use Rattle.mls_wire.specs.Replies.{strip_text}
use Rattle.mls_wire.proofs.violation_lines.push_strips.Given as goal

-- the lines of the strips so far
abbrev pub invariant-loop-strip : goal.invariant-loop-strip
invariant-loop-strip l = record {
  text : l.out.items ≡ l.fn.out.items ++ flat_map strip_text (take l.strip-index l.strips);
  capacity : vec_capacity l.fn.out ≤ vec_capacity l.out;
}
