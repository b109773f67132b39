-- No node has a chain.
use Rattle.mls_geom.proofs.Common.{◌*◌, ◌-◌, [], arith, take_all, pow_pos}
use Rattle.mls_geom.specs.declared.node.Node.{Node}
use Rattle.mls_geom.proofs.EmptyTrees.{AreEmpty-copies, IsTree-empty}
use Rattle.mls_geom.proofs.tree.Tree.begin.Goals as goal

pub returns-clause-tree : goal.returns-clause-tree
returns-clause-tree c =
    let (height, power) = c.in-Some.ensures.0 in
    let some = pow_pos height in
    let items = rw (c.unwrap.ensures, c.empty.ensures, c.clear-3.ensures.items) at c.resize.ensures.items in
    let len = rw c.unwrap.ensures at c.resize.ensures.len in
    IsTree-empty _ height power (omega (arith, len, power)) c.clear.ensures.items
    (rw (items, take_all {A = Node} (2 * c.in-Some.width - 1) [] (omega arith)) (AreEmpty-copies _))
