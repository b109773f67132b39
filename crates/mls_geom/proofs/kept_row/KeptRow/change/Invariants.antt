-- Up to a column the row is changed, whatever the picture is.
use Rattle.std.proofs.Common.{◌≡◌, ℕ, ◌-◌, ◌≤◌, Bool, length, vec_len}
use Rattle.mls_geom.proofs.Definitions.{Picture, IsBand, IsChanging, runs_of, AwaitsChange, world}
use Rattle.mls_geom.proofs.ChangedRows.{IsDone}
use Rattle.mls_geom.proofs.kept_row.KeptRow.change.Given as goal

abbrev pub invariant-loop-index : goal.invariant-loop-index
invariant-loop-index l = record {
  index_in : l.index ≤ length l.self.marks.items;
  lines : l.self.lines.items ≡ l.fn.self.lines.items;
  row : l.self.row.items ≡ l.fn.self.row.items;
  marks : l.self.marks.items ≡ l.initial.self.marks.items;
  same_runs : runs_of l.self.strips.items l.fn.self.row.items ≡ runs_of l.fn.self.strips.items l.fn.self.row.items;
  within : vec_len l.self.strips ≤ l.limit;
  changing : (column : ℕ) × IsDone l.fn.self.lines.items (runs_of l.fn.self.strips.items l.fn.self.row.items) l.initial.self.marks.items l.index l.passed column
      × ((picture : Picture) (present : ℕ → Bool) (top : ℕ)
      → AwaitsChange l.tree l.fn.self picture present l.line
      → IsBand world picture l.line top
      → top ≤ world.top
      → IsChanging picture l.line top column l.self.strips.items l.fn.self.row.items l.self.next.items l.passed l.passed);
}

abbrev pub decreases-loop-index : goal.decreases-loop-index
decreases-loop-index l = length l.self.marks.items - l.index
