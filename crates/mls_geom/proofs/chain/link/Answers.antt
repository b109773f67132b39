-- The chain is split where the piece is linked; a write at an entry of the node, or a new entry, leaves the chains of other nodes.
use Rattle.std.proofs.Common.{◌≡◌, ◌<◌, length, arith}
use Rattle.mls_geom.specs.Sweep.Trees.{end_of}
use Rattle.mls_geom.proofs.ChainEntries.{IsChain-added, IsChain-linked_over, IsChain-linked_under, IsChain-others, IsFalling-right, IsSplitAt-of_node}
use Rattle.mls_geom.proofs.EachOfChain.{Each-right}
use Rattle.mls_geom.proofs.chain.link.Goals as goal

pub first_after-under-requires-clause-chain : goal.first_after-under-requires-clause-chain
first_after-under-requires-clause-chain c =
    let (chain, chained, falling, known) = c.requires.chain in
    let split = rw c.deref.ensures.value at (c.in-Some.ensures.split c.args.node chain (rw c.deref.ensures.value chained)) in
    let (under, _) = rw c.deref.ensures.value at c.in-Some.ensures.under in (
      c.args.node,
      (
        split.rest,
        rw (under, c.deref-2.ensures.value) split.under,
        IsFalling-right split.front split.rest (rw split.whole at falling),
        Each-right (λ piece. piece < length c.args.segments.now) split.front split.rest (rw split.whole at known),
      ),
    )

pub returns-in_default-over-clause-chain : goal.returns-in_default-over-clause-chain
returns-in_default-over-clause-chain c = λ chain chained falling.
    let split = rw (c.deref.ensures.value, c.in_default-over.is) at (c.in-Some.ensures.split c.args.node chain (rw c.deref.ensures.value chained)) in
    let (under, lies_under) = rw (c.deref.ensures.value, c.in_default-over.is) at c.in-Some.ensures.under in
    let after = rw (under, c.deref-2.ensures.value) at (c.first_after-under.ensures c.args.node) in
    let added : c.in-Ok.added ≡ length c.args.entries.now.items = omega arith in
    rw added
    (IsChain-linked_over (end_of c.args.segments.now) c.args.entries.now.items c.push_reserved.new.self.items c.args.node c.args.piece c.args.head c.first_after-under.result chain
    split (rw under at lies_under) after c.push_reserved.ensures.items)

pub returns-in_default-over-clause-others : goal.returns-in_default-over-clause-others
returns-in_default-over-clause-others c = λ other next chain differs chained.
    IsChain-added c.args.entries.now.items c.push_reserved.new.self.items _ other next chain c.push_reserved.ensures.items chained

pub returns-clause-chain : goal.returns-clause-chain
returns-clause-chain c = λ chain chained falling.
    let split = rw (c.deref.ensures.value, c.in-Some-over.is) at (c.in-Some.ensures.split c.args.node chain (rw c.deref.ensures.value chained)) in
    let (under, lies_under) = rw (c.deref.ensures.value, c.in-Some-over.is) at c.in-Some.ensures.under in
    let after = rw (under, c.deref-2.ensures.value) at (c.first_after-under.ensures c.args.node) in
    IsChain-linked_under (end_of c.args.segments.now) c.args.entries.now.items c.push_reserved.new.self.items c.args.node c.args.piece c.in-Some-over.over c.in-Ok.added c.args.head
    c.first_after-under.result chain c.index_mut.result.now split falling (rw under at lies_under) after c.push_reserved.ensures.items (omega arith) c.index_mut.ensures.value

pub returns-clause-others : goal.returns-clause-others
returns-clause-others c = λ other next chain differs chained.
    let (those, chained_those, _, _) = c.requires.chain in
    let split = rw (c.deref.ensures.value, c.in-Some-over.is) at (c.in-Some.ensures.split c.args.node those (rw c.deref.ensures.value chained_those)) in
    let of_node = IsSplitAt-of_node _ _ _ c.args.node c.args.head those c.in-Some-over.over split in
    IsChain-others c.args.entries.now.items c.push_reserved.new.self.items _ _ c.args.node other c.in-Some-over.over next chain c.push_reserved.ensures.items of_node differs chained
