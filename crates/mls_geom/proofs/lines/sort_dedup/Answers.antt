-- Duplicates in sorted lines stand side by side, so what `dedup` leaves ascends.
use Rattle.mls_geom.proofs.Common.{dedup_is, Contains-dedup_nat, Contains-from_dedup, Contains-permutation, IsPermutation-sym, IsStrictlyIncreasing-dedup}
use Rattle.mls_geom.proofs.lines.sort_dedup.Goals as goal

pub returns-clause-ascending : goal.returns-clause-ascending
returns-clause-ascending c =
    rw (dedup_is _ _ _ c.dedup.ensures.filtered) (IsStrictlyIncreasing-dedup _ c.sort_unstable.ensures.sorted)

pub returns-clause-members : goal.returns-clause-members
returns-clause-members c =
    let kept = dedup_is _ _ _ c.dedup.ensures.filtered in
    let moved = c.sort_unstable.ensures.permutation in
    λ line. (
      λ held. Contains-permutation _ _ line (IsPermutation-sym _ _ moved) (Contains-from_dedup _ _ line (rw kept at held)),
      λ held. rw kept (Contains-dedup_nat _ line (Contains-permutation _ _ line moved held)),
    )
