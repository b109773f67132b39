use Rattle.std.proofs.Common.{◌≡◌, ◌≤◌, ◌++◌, vec_capacity}
use Rattle.std.specs.List.{flat_map}
use Rattle.mls_wire.specs.JournalLines.{next_type}
use Rattle.mls_wire.proofs.journal_lines.push_more_types.Given as goal

-- the texts of the types that are left
abbrev pub invariant-loop-kind : goal.invariant-loop-kind
invariant-loop-kind g l = record {
  text : l.out.items ++ flat_map (next_type (g.N.Names.book l.names)) l.kind-iterator ≡ l.fn.out.items ++ flat_map (next_type (g.N.Names.book l.names)) l.fn.kinds;
  capacity : vec_capacity l.fn.out ≤ vec_capacity l.out;
}
