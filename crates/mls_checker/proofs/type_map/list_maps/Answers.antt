use Rattle.mls_checker.proofs.type_map.list_maps.Goals as goal
use Rattle.mls_checker.proofs.type_map.list_maps.Goals.{else-not-is_idle-via-then-not-is_idle+else-is_err, else-not-is_idle-via-else-not-is_idle}

pub loop-rule-preserved : goal.loop-rule-preserved
loop-rule-preserved c = elim c.else-not-is_idle.branch [
  | else-not-is_idle-via-then-not-is_idle+else-is_err w ↦ rw w.kept-is w.keep_types.ensures
  | else-not-is_idle-via-else-not-is_idle w ↦ rw w.kept-is c.loop-rule.invariant
]
