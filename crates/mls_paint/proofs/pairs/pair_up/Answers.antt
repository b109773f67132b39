-- Each step only moves elements.
use Rattle.std.proofs.lemmas.List.Sorted.{IsPermutation-trans}
use Rattle.mls_paint.proofs.pairs.pair_up.Goals as goal

pub returns-clause-tiles : goal.returns-clause-tiles
returns-clause-tiles c =
    IsPermutation-trans _ _ _ c.swap.ensures.permutation (IsPermutation-trans _ _ _ c.pair_by-paired.ensures.tiles c.pair_by.ensures.tiles)

pub returns-clause-strips : goal.returns-clause-strips
returns-clause-strips c =
    IsPermutation-trans _ _ _ c.swap-2.ensures.permutation (IsPermutation-trans _ _ _ c.pair_by-paired.ensures.strips c.pair_by.ensures.strips)
