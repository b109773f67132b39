use Rattle.mls_checker.proofs.side_lists.list_sides.Goals as goal
use Rattle.mls_checker.proofs.side_lists.list_sides.Goals.{else-not-is_idle-via-then-not-is_idle+else-is_err, else-not-is_idle-via-else-not-is_idle}

pub loop-rule-preserved : goal.loop-rule-preserved
loop-rule-preserved c = elim c.else-not-is_idle.branch [
  | else-not-is_idle-via-then-not-is_idle+else-is_err w ↦ rw w.lists-is w.add_lists.ensures
  | else-not-is_idle-via-else-not-is_idle w ↦ rw w.lists-is c.loop-rule.invariant
]
