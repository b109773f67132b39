-- The strips of the runs before the index are ended, whatever the picture is.
use Rattle.std.proofs.Common.{◌≡◌, ℕ, List, vec_len}
use Rattle.mls_geom.proofs.Definitions.{Picture, IsChanging, runs_of}
use Rattle.mls_geom.proofs.row_change.end_runs.Given as goal

abbrev pub invariant-loop-index : goal.invariant-loop-index
invariant-loop-index l = record {
  changing : (picture : Picture) (top column : ℕ) (next : List ℕ)
      → IsChanging picture l.line top column l.fn.strips.items l.row next l.fn.runs.first l.fn.runs.first
      → IsChanging picture l.line top column l.strips.items l.row next l.fn.runs.first l.index;
  same_runs : runs_of l.strips.items l.row ≡ runs_of l.fn.strips.items l.row;
  len : vec_len l.strips ≡ vec_len l.fn.strips;
}
