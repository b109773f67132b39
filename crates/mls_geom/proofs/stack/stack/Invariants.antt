use Rattle.std.proofs.Common.{◌≡◌, ◌≤◌, length, vec_capacity, vec_len}
use Rattle.mls_geom.proofs.Definitions.{Picture, AreRuns, AreAlike, AreStacked, world}
use Rattle.mls_geom.proofs.RowStacking.{IsRowStacked}
use Rattle.mls_geom.proofs.stack.stack.Given as goal

abbrev pub invariant-loop-run : goal.invariant-loop-run
invariant-loop-run l = record {
  within : vec_len l.strips ≤ l.limit;
  room : vec_capacity l.strips ≡ vec_capacity l.fn.strips;
  index_within : l.index ≤ length l.below;
  stacked : (picture : Picture) → AreStacked world picture l.bottom l.fn.strips.items l.fn.below → AreRuns world picture l.bottom l.fn.row → AreAlike world picture l.bottom l.top
      → IsRowStacked world picture l.bottom l.top l.below l.row l.index l.run-index l.strips.items;
}
