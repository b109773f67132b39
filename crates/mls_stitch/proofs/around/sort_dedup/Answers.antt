-- Tiles with one key stand side by side once they are sorted.
use Rattle.std.proofs.Common.{rules}
use Rattle.mls_stitch.proofs.Common.{IsNonDecreasingBy-from_sort_by_key, LaidTile}
use Rattle.std.proofs.lemmas.Fn.{dedup_same}
use Rattle.mls_stitch.proofs.SortedTiles.{KeepsKeys-sorted, once-dedup, same_key}
use Rattle.mls_stitch.proofs.around.sort_dedup.Goals as goal

pub returns-clause-once : goal.returns-clause-once
returns-clause-once c =
    let kept = dedup_same _ same_key _ (λ x y b f' x' y' k. search rules) _ _ c.dedup_by_key.ensures.filtered in
    rw kept (once-dedup _ (IsNonDecreasingBy-from_sort_by_key (λ (entry : LaidTile). entry.id) _ c.sort_unstable_by_key.ensures.sorted (λ entry key f called. search rules)))

pub returns-clause-keeps : goal.returns-clause-keeps
returns-clause-keeps c =
    let kept = dedup_same _ same_key _ (λ x y b f' x' y' k. search rules) _ _ c.dedup_by_key.ensures.filtered in
    KeepsKeys-sorted _ _ _ c.sort_unstable_by_key.ensures.permutation kept
