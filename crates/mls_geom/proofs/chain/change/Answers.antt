-- A piece that begins is linked, and one that ends is unlinked where it is the chain's first one.
use Rattle.mls_geom.proofs.Common.{arith, ◌∙◌, get_or_default}
use Rattle.mls_geom.proofs.ChainEntries.{IsBegun-chain, IsChain-not_unlinked, IsChain-unlinked}
use Rattle.mls_geom.proofs.chain.change.Goals as goal

pub index-requires : goal.index-requires
index-requires c =
    let (chain, chained, _, _) = c.requires.chain in
    omega (arith, (IsBegun-chain _ c.args.node _ chain (rw c.in-Some.is at chained)).within)

pub index-requires-in-Some : goal.index-requires-in-Some
index-requires-in-Some c =
    let (chain, chained, _, _) = c.requires.chain in
    omega (arith, (IsBegun-chain _ c.args.node _ chain (rw c.in-Some.is at chained)).within)

pub returns-in-Some-clause-chain : goal.returns-in-Some-clause-chain
returns-in-Some-clause-chain c = λ chain chained _.
    let those = rw c.in-Some.is at chained in
    let entries = c.args.entries.now.items in
    let within = (IsBegun-chain entries c.args.node c.in-Some.entry chain those).within in
    let tested = c.index.ensures ∙ get_or_default entries c.in-Some.entry c.index.result.now _ within in
    let led = c.index-in-Some.ensures ∙ get_or_default entries c.in-Some.entry c.index-in-Some.result.now _ within in
    rw (c.in_default.is, led) (IsChain-unlinked entries c.args.node c.in-Some.entry c.args.piece chain those (rw tested at c.if-index-piece.true))

pub returns-in_default-head-clause-chain : goal.returns-in_default-head-clause-chain
returns-in_default-head-clause-chain c = λ chain chained _.
    let those = rw c.in-Some.is at chained in
    let entries = c.args.entries.now.items in
    let within = (IsBegun-chain entries c.args.node c.in-Some.entry chain those).within in
    let tested = c.index.ensures ∙ get_or_default entries c.in-Some.entry c.index.result.now _ within in
    rw c.in_default.is (IsChain-not_unlinked entries c.args.node c.in-Some.entry c.args.piece chain those (rw tested at c.if-index-piece.false))
