-- Each half is less wide.
use Rattle.mls_geom.proofs.tree.Tree.+change_in.Given as goal

abbrev pub decreases-change_in : goal.decreases-change_in
decreases-change_in l = l.part.width
