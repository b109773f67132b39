use Rattle.std.proofs.Common.{◌≡◌, ◌≤◌, ◌++◌, vec_capacity}
use Rattle.std.specs.List.{flat_map}
use Rattle.mls_kinds.specs.KindSets.{members}
use Rattle.mls_wire.specs.Replies.{type_text}
use Rattle.mls_wire.proofs.reply.push_types.Given as goal

-- the texts of the types that are left
abbrev pub invariant-loop-kind : goal.invariant-loop-kind
invariant-loop-kind g l = record {
  text : l.out.items ++ flat_map (type_text (g.N.Names.book l.names)) l.kind-iterator ≡ l.fn.out.items ++ flat_map (type_text (g.N.Names.book l.names)) (members l.fn.types);
  capacity : vec_capacity l.fn.out ≤ vec_capacity l.out;
}
