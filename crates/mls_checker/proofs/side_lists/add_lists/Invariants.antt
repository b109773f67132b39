-- The lists so far are lists of the snapshot's sides.
use Rattle.mls_checker.specs.Copies.{AreListsOf}
use Rattle.mls_checker.proofs.side_lists.add_lists.Given as goal

abbrev pub invariant-loop-direction : goal.invariant-loop-direction
invariant-loop-direction l = AreListsOf l.fn.snapshot l.lists.items
