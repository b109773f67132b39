-- The pieces of the entries so far lie over this one and end before it; those of the next ones lie lower and lower.
use Rattle.std.proofs.Common.{◌≡◌, ℕ, List}
use Rattle.mls_geom.proofs.Definitions.{IsChain, IsSplitAt, under_of, end_of}
use Rattle.mls_geom.proofs.ChainEntries.{rank_at}
use Rattle.mls_geom.proofs.chain.place.Given as goal

abbrev pub invariant-loop-under : goal.invariant-loop-under
invariant-loop-under l = record {
  split : (node : ℕ) (chain : List ℕ) → IsChain l.entries node l.fn.head chain → IsSplitAt (end_of l.segments) l.piece l.entries node l.fn.head chain l.over;
  under : l.under ≡ under_of l.entries l.fn.head l.over;
}

abbrev pub decreases-loop-under : goal.decreases-loop-under
decreases-loop-under l = rank_at l.entries l.under
