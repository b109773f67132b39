use Rattle.std.proofs.Common.{◌≡◌, ◌≤◌, ◌++◌, vec_capacity}
use Rattle.std.specs.List.{flat_map}
use Rattle.mls_edgerule.specs.RuleSets.{rules_in}
use Rattle.mls_wire.specs.Replies.{rule_text}
use Rattle.mls_wire.proofs.reply.push_rules.Given as goal

-- the texts of the rules that are left
abbrev pub invariant-loop-n : goal.invariant-loop-n
invariant-loop-n g l = record {
  text : l.out.items ++ flat_map (rule_text (g.N.Names.book l.names)) l.n-iterator ≡ l.fn.out.items ++ flat_map (rule_text (g.N.Names.book l.names)) (rules_in l.fn.rules);
  capacity : vec_capacity l.fn.out ≤ vec_capacity l.out;
}
