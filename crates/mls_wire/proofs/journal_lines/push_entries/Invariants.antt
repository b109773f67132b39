use Rattle.std.proofs.Common.{◌≡◌, ◌≤◌, ◌++◌, take, vec_capacity}
use Rattle.std.specs.List.{flat_map}
use Rattle.mls_wire.specs.JournalLines.{entry_text}
use Rattle.mls_wire.proofs.journal_lines.push_entries.Given as goal

-- the lines of the entries so far
abbrev pub invariant-loop-entry : goal.invariant-loop-entry
invariant-loop-entry g l = record {
  text : l.out.items ≡ l.fn.out.items ++ flat_map (entry_text (g.N.Names.book l.names) l.name) (take l.entry-index l.entries);
  capacity : vec_capacity l.fn.out ≤ vec_capacity l.out;
}
