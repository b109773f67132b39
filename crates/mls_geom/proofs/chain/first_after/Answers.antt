-- Each turn passes one entry more.
use Rattle.std.proofs.Common.{◌<◌, length, arith}
use Rattle.mls_geom.proofs.Definitions.{entry_at, end_of}
use Rattle.mls_geom.proofs.ChainEntries.{end_read, IsChain-rest, IsFalling-right, IsOutlived-end, IsOutlived-more, rank_at-under}
use Rattle.mls_geom.proofs.chain.first_after.Goals as goal
use Rattle.mls_geom.proofs.chain.first_after.Goals.{In-Some}

-- the entry that the walk came to
in_lists : (c : In-Some) → (c.in-Some.entry < length c.args.entries.now) × ((entry_at c.args.entries.now c.in-Some.entry).piece < length c.args.segments.now)
in_lists c =
    let (node, (chain, chained, _, known)) = c.requires.chain in
    let outlived = c.loop-next.invariant node chain chained in
    rw c.in-Some.is at (IsChain-rest (λ piece. piece < length c.args.segments.now) _ node _ outlived.front outlived.rest chain outlived.whole outlived.under known)

pub bounds-entries-entry : goal.bounds-entries-entry
bounds-entries-entry c = (in_lists (goal.at.bounds-entries-entry c).In-Some).0

pub bounds-segments-at : goal.bounds-segments-at
bounds-segments-at c = (in_lists (goal.at.bounds-segments-at c).In-Some).1

pub bounds-segments-at-in-Some : goal.bounds-segments-at-in-Some
bounds-segments-at-in-Some c = (in_lists (goal.at.bounds-segments-at-in-Some c).In-Some).1

pub loop-next-smaller : goal.loop-next-smaller
loop-next-smaller c =
    let (node, (chain, chained, falling, _)) = c.requires.chain in
    let outlived = c.loop-next.invariant node chain chained in
    rw c.in-Some.is (rank_at-under c.args.entries.now node c.in-Some.entry outlived.rest (rw c.in-Some.is at outlived.under) (IsFalling-right outlived.front outlived.rest (rw outlived.whole at falling)))

pub loop-next-preserved : goal.loop-next-preserved
loop-next-preserved c = λ node chain chained.
    IsOutlived-more (end_of c.args.segments.now) c.args.piece c.args.entries.now node chain c.loop-next.next c.in-Some.entry (c.loop-next.invariant node chain chained) c.in-Some.is
    (omega (arith, c.if-end-segments.false, end_read c.args.segments.now _ c.index-segments-at.result (in_lists (goal.at.loop-next-preserved c).In-Some).1, end_read c.args.segments.now _ c.index-segments-piece.result c.requires.known))

pub returns-then-end-segments : goal.returns-then-end-segments
returns-then-end-segments c = λ node chain chained.
    rw c.in-Some.is at (IsOutlived-end (end_of c.args.segments.now) c.args.piece c.args.entries.now node chain c.loop-next.next (c.loop-next.invariant node chain chained) (rw c.in-Some.is (omega (arith, c.if-end-segments.true, end_read c.args.segments.now _ c.index-segments-at.result (in_lists (goal.at.returns-then-end-segments c).In-Some).1, end_read c.args.segments.now _ c.index-segments-piece.result c.requires.known))))

pub returns-in_default : goal.returns-in_default
returns-in_default c = λ node chain chained.
    IsOutlived-end (end_of c.args.segments.now) c.args.piece c.args.entries.now node chain c.loop-next.next (c.loop-next.invariant node chain chained) (rw c.in_default.is (record {}))
