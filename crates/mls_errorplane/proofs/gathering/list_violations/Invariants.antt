use Rattle.std.proofs.Common.{◌≡◌, ◌+◌, ◌++◌, map}
use Rattle.mls_errorplane.proofs.Common.{listed_violation, rules_in, strip_count}
use Rattle.mls_errorplane.proofs.gathering.list_violations.Given as goal

-- the violations so far and those of the rules that are left; and how many strips there may be more
abbrev pub invariant-loop-rule : goal.invariant-loop-rule
invariant-loop-rule l = record {
  listed : l.list.items ++ map (listed_violation l.fn.rect l.fn.found) l.rule-iterator ≡ map (listed_violation l.fn.rect l.fn.found) (rules_in l.fn.of);
  left : strip_count l.list.items + l.left ≡ l.fn.limit;
}
