use Rattle.mls_geom.proofs.TreeWalks.{HasWalkedTo}
use Rattle.mls_geom.proofs.tree.Tree.shown_from.Given as goal

abbrev pub invariant-loop-part : goal.invariant-loop-part
invariant-loop-part l = HasWalkedTo l.self l.slot l.above l.part

abbrev pub decreases-loop-part : goal.decreases-loop-part
decreases-loop-part l = l.part.width
