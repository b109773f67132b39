-- What ends at the line leaves, what begins at it joins, and the sort puts the two in order.
use Rattle.mls_geom.proofs.Common.{◌≡◌, leb, take, arith, rules, filter, filter_same, take_all, IsNonDecreasingBy-from_sort, IsPartitionPoint-from_clause, IsPartitionedBy-leb}
use Rattle.mls_geom.proofs.Definitions.{AddsStarted, ends_above, world, Start}
use Rattle.mls_geom.proofs.Activation.{ArePartedAt-activate, AreActive-parted, EndsFrom-activate}
use Rattle.mls_geom.proofs.Starts.{AddsStarted-partition}
use Rattle.mls_geom.proofs.active.activate.Goals as goal
use Rattle.mls_geom.proofs.active.activate.Goals.{After-loop-start}

joins : (c : After-loop-start) → AddsStarted c.args.line c.args.waiting.now c.split_at.result.1.now (filter (ends_above c.args.pieces.now c.args.line) c.args.active.now.items) c.loop-start.active.items
joins c =
    let waiting = c.args.waiting.now in
    let line = c.args.line in
    let search_ensures = c.partition_point-reached.ensures in
    let parts = IsPartitionPoint-from_clause (λ (start : Start). leb start.bottom line) waiting _ search_ensures.partitioned
    (IsPartitionedBy-leb (λ (start : Start). start.bottom) waiting line c.requires.parted.ordered) (λ start reached f called. search rules) in
    let started = c.split_at.result.0.now in
    let all : take c.loop-start.start-index started ≡ started = take_all c.loop-start.start-index started (omega arith) in
    let kept = filter_same _ (ends_above c.args.pieces.now line) _ (λ i stays f called. search rules) _ _ c.retain.ensures.filtered in
    let joined = rw (all, c.split_at.ensures.front, kept) at c.loop-start.invariant.joined in
    rw c.split_at.ensures.back (AddsStarted-partition line waiting _ _ _ search_ensures.bound parts joined)

pub returns-clause-active : goal.returns-clause-active
returns-clause-active c =
    let join = joins (goal.at.returns-clause-active c).After-loop-start in
    let moved = c.sort_unstable.ensures.permutation in
    AreActive-parted c.args.line c.args.pieces.now _ _
    (ArePartedAt-activate c.args.line c.args.pieces.now _ _ _ _ _ c.requires.parted join moved)
    (EndsFrom-activate c.args.line c.args.pieces.now _ _ _ _ _ c.requires.parted join moved world c.requires.legal)
    (IsNonDecreasingBy-from_sort (λ i. i) _ c.sort_unstable.ensures.sorted)

pub returns-clause-parted : goal.returns-clause-parted
returns-clause-parted c =
    let join = joins (goal.at.returns-clause-parted c).After-loop-start in
    ArePartedAt-activate c.args.line c.args.pieces.now _ _ _ _ _ c.requires.parted join c.sort_unstable.ensures.permutation
