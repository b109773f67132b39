-- Each turn passes one entry more.
use Rattle.std.proofs.Common.{◌≡◌, ◌<◌, ◌++◌, Some, length, ap, sym, ◌∙◌, arith}
use Rattle.mls_geom.proofs.Definitions.{entry_at, under_of, end_of}
use Rattle.mls_geom.proofs.ChainEntries.{end_read, IsChain-rest, IsFalling-right, IsSplitAt-more, linked-hidden, rank_at-under}
use Rattle.mls_geom.proofs.chain.place.Goals as goal
use Rattle.mls_geom.proofs.chain.place.Goals.{In-Some}

-- the entry that the walk came to
next : (c : In-Some) → under_of c.args.entries.now c.args.head c.loop-under.over ≡ Some c.in-Some.entry
next c = sym c.loop-under.invariant.under ∙ c.in-Some.is

in_lists : (c : In-Some) → (c.in-Some.entry < length c.args.entries.now) × ((entry_at c.args.entries.now c.in-Some.entry).piece < length c.args.segments.now)
in_lists c =
    let (node, (chain, chained, _, known)) = c.requires.chain in
    let split = c.loop-under.invariant.split node chain chained in
    rw (next c) at (IsChain-rest (λ piece. piece < length c.args.segments.now) _ node _ split.front split.rest chain split.whole split.under known)

pub bounds-entries-entry : goal.bounds-entries-entry
bounds-entries-entry c = (in_lists (goal.at.bounds-entries-entry c).In-Some).0

pub bounds-segments-at : goal.bounds-segments-at
bounds-segments-at c = (in_lists (goal.at.bounds-segments-at c).In-Some).1

pub bounds-segments-at-else-at-piece : goal.bounds-segments-at-else-at-piece
bounds-segments-at-else-at-piece c = (in_lists (goal.at.bounds-segments-at-else-at-piece c).In-Some).1

pub returns-then-end-segments-clause-hidden : goal.returns-then-end-segments-clause-hidden
returns-then-end-segments-clause-hidden c = λ _ node chain chained.
    let split = c.loop-under.invariant.split node chain chained in
    let under = rw (next (goal.at.returns-then-end-segments-clause-hidden c).In-Some) at split.under in
    let hidden = linked-hidden (end_of c.args.segments.now) c.args.piece c.args.entries.now node c.in-Some.entry split.rest under (omega (arith, c.if-at-piece.false))
    (omega (arith, c.if-end-segments.true, end_read c.args.segments.now _ c.index-segments-at.result (in_lists (goal.at.returns-then-end-segments-clause-hidden c).In-Some).1, end_read c.args.segments.now _ c.index-segments-piece.result c.requires.known)) in
    split.stays ∙ ap (λ rest. split.front ++ rest) hidden ∙ sym split.whole

pub loop-under-smaller : goal.loop-under-smaller
loop-under-smaller c =
    let (node, (chain, chained, falling, _)) = c.requires.chain in
    let split = c.loop-under.invariant.split node chain chained in
    let under = rw (next (goal.at.loop-under-smaller c).In-Some) at split.under in
    rw c.in-Some.is (rank_at-under c.args.entries.now node c.in-Some.entry split.rest under (IsFalling-right split.front split.rest (rw split.whole at falling)))

pub loop-under-preserved : goal.loop-under-preserved
loop-under-preserved c = record {
  split = λ node chain chained.
      IsSplitAt-more (end_of c.args.segments.now) c.args.piece c.args.entries.now node c.args.head chain c.loop-under.over c.in-Some.entry
      (c.loop-under.invariant.split node chain chained) (next (goal.at.loop-under-preserved c).In-Some) (omega (arith, c.if-at-piece.false))
      (omega (arith, c.if-end-segments.false, end_read c.args.segments.now _ c.index-segments-at.result (in_lists (goal.at.loop-under-preserved c).In-Some).1, end_read c.args.segments.now _ c.index-segments-piece.result c.requires.known));
  under = cc;
}
