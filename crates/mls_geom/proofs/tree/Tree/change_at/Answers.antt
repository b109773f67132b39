-- What is written belongs to the node, so the chains of other nodes stay.
use Rattle.mls_geom.proofs.Common.{◌+◌, ◌^◌, ◌<◌, ℕ, List, None, length, refl, ◌∙◌, arith, get_or-set_same, get_or-set_other, get_or_default, length-set}
use Rattle.mls_geom.proofs.Definitions.{Node, Nothing, IsChain, stepped, AreLinked, end_of}
use Rattle.mls_geom.proofs.LinkedNodes.{AreLinked-at, IsLinked-stepped}
use Rattle.mls_geom.proofs.EachOfChain.{Each-stepped, Each-weaker}
use Rattle.mls_geom.proofs.tree.Tree.change_at.Goals as goal
use Rattle.mls_geom.proofs.tree.Tree.change_at.Goals.{In_ok-head}

-- the chain that the node's first entry now begins
chained : (c : In_ok-head) (chains : ℕ → List ℕ) → AreLinked c.args.self.now chains
    → IsChain c.change.new.entries.items c.args.node c.in_ok-head.head (stepped c.args.step (end_of c.args.self.now.segments.items) c.args.piece (chains c.args.node))
chained c chains are_linked =
    let node = c.args.node in
    let before = are_linked node c.requires.node in
    let node_is = c.index.ensures ∙ get_or_default c.args.self.now.nodes.items node c.index.result.now _ c.requires.node in
    rw c.deref.ensures.value at (c.in_ok-head.ensures.chain (chains node) (rw node_is before.entries) before.falling)

pub top-top-requires : goal.top-top-requires
top-top-requires c =
    let (chains, are_linked) = c.requires.linked in
    let few = c.requires.few in
    let known = λ (piece : ℕ). piece < length c.args.self.now.segments.items in
    let each = Each-stepped c.args.step (end_of c.args.self.now.segments.items) known c.args.piece (chains c.args.node) c.requires.known (are_linked c.args.node c.requires.node).known in
    record {
      chain = (
        c.args.node,
        (
          _,
          rw c.deref-2.ensures.value (chained (goal.at.top-top-requires c).In_ok-head chains are_linked),
          Each-weaker known (λ piece. piece + 1 < 2 ^ 32) _ (λ piece there. omega arith) each,
        ),
      );
    }

pub returns-clause-linked : goal.returns-clause-linked
returns-clause-linked c = λ chains are_linked.
    let old = c.args.self.now in
    let node = c.args.node in
    let nodes = old.nodes.items in
    let kept = c.index_mut-at.result.now in
    let written : Node = record { head = c.in_ok-head.head; top = c.top-top.result; least = kept.least; most = kept.most; shown = kept.shown } in
    let nothing : Node = record { head = None; top = 0; least = 0; most = 0; shown = Nothing } in
    let here = get_or-set_same nodes node written nothing c.requires.node in
    let chain = chained (goal.at.returns-clause-linked c).In_ok-head chains are_linked in
    AreLinked-at (stepped c.args.step (end_of old.segments.items) c.args.piece) old _ node chains are_linked (length-set nodes node written) refl
    (λ n other. get_or-set_other nodes node n written nothing other)
    c.in_ok-head.ensures.others
    (IsLinked-stepped c.args.step (end_of old.segments.items) old _ node c.args.piece (chains node) (are_linked node c.requires.node) c.requires.known refl (rw here chain)
    (rw here (c.top-top.ensures node _ (rw c.deref-2.ensures.value chain))))
