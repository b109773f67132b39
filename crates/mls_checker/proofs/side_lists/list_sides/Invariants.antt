-- The lists so far are lists of the snapshot's sides.
use Rattle.mls_checker.specs.Copies.{AreListsOf}
use Rattle.mls_checker.proofs.side_lists.list_sides.Given as goal

abbrev pub invariant-loop-rule : goal.invariant-loop-rule
invariant-loop-rule l = AreListsOf l.fn.snapshot l.lists.items
