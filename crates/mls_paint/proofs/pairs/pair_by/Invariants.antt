use Rattle.std.proofs.Common.{◌+◌, ◌-◌, ◌≤◌, IsPermutation, length}
use Rattle.mls_paint.proofs.pairs.pair_by.Given as goal

abbrev pub invariant-tiles : goal.invariant-tiles
invariant-tiles l = record {
  tiles : IsPermutation l.fn.tiles l.tiles;
  strips : IsPermutation l.fn.strips l.strips;
  before_tile : l.paired ≤ l.tile;
  before_strip : l.paired ≤ l.strip;
}

abbrev pub decreases-tiles : goal.decreases-tiles
decreases-tiles l = (length l.tiles - l.tile) + (length l.strips - l.strip)
