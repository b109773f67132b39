-- The chain's first entry has its topmost piece.
use Rattle.std.proofs.Common.{◌+◌, ◌^◌, ◌<◌, add-one, refl, arith}
use Rattle.mls_geom.proofs.ChainEntries.{IsBegun-chain, IsBegun-each}
use Rattle.mls_geom.proofs.chain.top.Goals as goal

pub bounds-entries-entry : goal.bounds-entries-entry
bounds-entries-entry c =
    let (node, there) = c.requires.chain in
    let (chain, chained, _) = there in
    (IsBegun-chain _ node _ chain (rw c.in-Some.is at chained)).within

pub overflow_add-result : goal.overflow_add-result
overflow_add-result c =
    let (node, there) = c.requires.chain in
    let (chain, chained, each) = there in
    let fits = IsBegun-each (λ piece. piece + 1 < 2 ^ 32) c.args.entries.now node c.in-Some.entry chain (IsBegun-chain _ node _ chain (rw c.in-Some.is at chained)) each in
    omega arith

pub returns-in-Some : goal.returns-in-Some
returns-in-Some c = λ node chain chained.
    let begun = IsBegun-chain _ node _ chain (rw c.in-Some.is at chained) in
    rw (begun.whole, add-one) refl
