use Rattle.mls_live.proofs.checks.Checks.work_off.Given as goal

abbrev pub decreases-loop-left : goal.decreases-loop-left
decreases-loop-left g l = l.left
