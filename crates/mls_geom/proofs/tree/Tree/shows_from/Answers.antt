-- The walk ends at the largest part of which it is known whether the piece may lie on top there.
use Rattle.std.proofs.Common.{◌+◌, ◌<◌, arith, leb-false}
use Rattle.mls_geom.proofs.TreeTops.{IsRankOf-one}
use Rattle.mls_geom.proofs.TreeWalks.{HasWalkedTo-half, HasWalkedTo-bounds, HasWalkedTo-leaf, node-looked_up}
use Rattle.mls_geom.proofs.tree.Tree.shows_from.Goals as goal

pub loop-part-preserved : goal.loop-part-preserved
loop-part-preserved c =
    let walk = c.loop-part.invariant in
    let node = node-looked_up walk c.node.ensures c.index.ensures in
    HasWalkedTo-half c.requires.tree walk c.loop-part-test.true node c.max-above.ensures c.towards-part.ensures.first c.towards-part.ensures.width

pub returns-in-Some-clause-hidden : goal.returns-in-Some-clause-hidden
returns-in-Some-clause-hidden c = λ hidden present s rank whole from to top.
    let walk = c.loop-part.invariant in
    let node = node-looked_up walk c.node.ensures c.index.ensures in
    let (over, is_top, above) = HasWalkedTo-bounds (λ over. c.args.piece + 1 < over) walk node (λ below bounds. c.in-Some.ensures hidden below bounds.least)
    present s whole from to in
    omega (arith, above, IsRankOf-one rank over top is_top)

pub returns-clause-hidden : goal.returns-clause-hidden
returns-clause-hidden c = λ hidden present s rank whole from to top.
    let walk = c.loop-part.invariant in
    let node = node-looked_up walk c.node-2.ensures c.index-2.ensures in
    let least = rw c.max.ensures at (leb-false _ _ hidden) in
    let (over, is_top, above) = HasWalkedTo-leaf (λ over. c.args.piece + 1 < over) walk node (omega (arith, c.loop-part-test.false)) least
    present s whole from to in
    omega (arith, above, IsRankOf-one rank over top is_top)
