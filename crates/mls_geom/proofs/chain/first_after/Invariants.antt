-- The pieces of the entries so far end no later than this one; those of the next ones lie lower and lower.
use Rattle.std.proofs.Common.{ℕ, List}
use Rattle.mls_geom.proofs.Definitions.{IsChain, end_of}
use Rattle.mls_geom.proofs.ChainEntries.{IsOutlived, rank_at}
use Rattle.mls_geom.proofs.chain.first_after.Given as goal

abbrev pub invariant-loop-next : goal.invariant-loop-next
invariant-loop-next l =
    (node : ℕ) (chain : List ℕ) → IsChain l.entries node l.fn.head chain → IsOutlived (end_of l.segments) l.piece l.entries node chain l.next

abbrev pub decreases-loop-next : goal.decreases-loop-next
decreases-loop-next l = rank_at l.entries l.next
