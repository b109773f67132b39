-- The walk ends at the largest part of which it is known what its slots show.
use Rattle.std.proofs.Common.{◌≡◌, length, ap, arith}
use Rattle.mls_geom.specs.Sweep.Trees.{kind_shown}
use Rattle.mls_geom.proofs.TreeWalks.{HasWalkedTo-half, HasWalkedTo-bounds, HasWalkedTo-leaf, above-known, max-known, node-looked_up}
use Rattle.mls_geom.proofs.tree.Tree.shown_from.Goals as goal

pub decided-requires : goal.decided-requires
decided-requires c = omega (arith, above-known c.requires.tree c.loop-part.invariant, ap length c.deref.ensures.value)

pub returns-in-Some-clause-shows : goal.returns-in-Some-clause-shows
returns-in-Some-clause-shows c = λ present s whole from to.
    let walk = c.loop-part.invariant in
    let node = node-looked_up walk c.node.ensures c.index.ensures in
    let kind = rw c.deref.ensures.value at c.in-Some.ensures in
    HasWalkedTo-bounds (λ rank. c.in-Some.kind ≡ kind_shown c.args.self.now.segments.items rank) walk node kind present s whole from to

pub loop-part-preserved : goal.loop-part-preserved
loop-part-preserved c =
    let walk = c.loop-part.invariant in
    let node = node-looked_up walk c.node.ensures c.index.ensures in
    HasWalkedTo-half c.requires.tree walk c.loop-part-test.true node c.max-above.ensures c.towards-part.ensures.first c.towards-part.ensures.width

pub kind_shown-requires : goal.kind_shown-requires
kind_shown-requires c =
    let walk = c.loop-part.invariant in
    let node = node-looked_up walk c.node-2.ensures c.index-2.ensures in
    omega (arith, max-known c.requires.tree walk node, c.max-rank.ensures, ap length c.deref-2.ensures.value)

pub returns-clause-shows : goal.returns-clause-shows
returns-clause-shows c = λ present s whole from to.
    let walk = c.loop-part.invariant in
    let node = node-looked_up walk c.node-2.ensures c.index-2.ensures in
    let kind = rw (c.deref-2.ensures.value, c.max-rank.ensures) at c.kind_shown.ensures in
    HasWalkedTo-leaf (λ rank. c.kind_shown.result ≡ kind_shown c.args.self.now.segments.items rank) walk node (omega (arith, c.loop-part-test.false)) kind
    present s whole from to
