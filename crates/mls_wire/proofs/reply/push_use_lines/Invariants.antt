use Rattle.std.proofs.Common.{◌≡◌, ◌≤◌, ◌++◌, take, vec_capacity}
use Rattle.std.specs.List.{flat_map}
use Rattle.mls_wire.specs.Replies.{use_text}
use Rattle.mls_wire.proofs.reply.push_use_lines.Given as goal

-- the lines of the uses so far
abbrev pub invariant-loop-cell_use : goal.invariant-loop-cell_use
invariant-loop-cell_use g l = record {
  text : l.out.items ≡ l.fn.out.items ++ flat_map (use_text (g.N.Names.book l.names)) (take l.cell_use-index l.uses);
  capacity : vec_capacity l.fn.out ≤ vec_capacity l.out;
}
