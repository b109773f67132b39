-- The sorts, and each swap, only move elements.
use Rattle.std.proofs.Common.{arith}
use Rattle.std.proofs.lemmas.List.Sorted.{IsPermutation-put_mid, IsPermutation-trans}
use Rattle.mls_paint.proofs.pairs.pair_by.Goals as goal
use Rattle.mls_paint.proofs.pairs.pair_by.Goals.{then-matches, else-matches}

pub tiles-init : goal.tiles-init
tiles-init c = record {
  tiles = IsPermutation-put_mid _ _ _ _ c.sort_unstable_by_key.ensures.permutation;
  strips = IsPermutation-put_mid _ _ _ _ c.sort_unstable_by_key-2.ensures.permutation;
  before_tile = omega arith;
  before_strip = omega arith;
}

pub tiles-preserved : goal.tiles-preserved
tiles-preserved c =
    let so_far = c.tiles.invariant in
    elim c.if-matches.branch [
      | then-matches w ↦ record {
        tiles = rw w.tiles-is (IsPermutation-trans _ _ _ so_far.tiles w.swap.ensures.permutation);
        strips = rw w.strips-is (IsPermutation-trans _ _ _ so_far.strips w.swap-then-matches.ensures.permutation);
        before_tile = omega (arith, w.paired-is, so_far.before_tile);
        before_strip = omega (arith, w.paired-is, so_far.before_strip);
      }
      | else-matches w ↦ record {
        tiles = rw w.tiles-is so_far.tiles;
        strips = rw w.strips-is so_far.strips;
        before_tile = omega (arith, w.paired-is, so_far.before_tile);
        before_strip = omega (arith, w.paired-is, so_far.before_strip);
      }
    ]
