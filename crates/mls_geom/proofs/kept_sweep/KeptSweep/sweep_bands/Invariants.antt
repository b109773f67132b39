-- Before a band the tree has the pieces of the row below its bottom line, and the kept row is that row.
use Rattle.std.proofs.Common.{◌≡◌, ◌-◌, ◌≤◌, [], slice_index, vec_len}
use Rattle.mls_geom.proofs.Definitions.{laid, AreEvents, bottom_of, is_below, top_of, IsKept, IsTree}
use Rattle.mls_geom.proofs.kept_sweep.KeptSweep.sweep_bands.Given as goal

abbrev pub invariant-loop-i : goal.invariant-loop-i
invariant-loop-i l =
    let line = slice_index l.lines.items (l.i - 1) in
    record {
      tree : IsTree l.tree (is_below l.pieces line);
      begin : AreEvents bottom_of line l.pieces l.to_begin;
      end : AreEvents top_of line l.pieces l.to_end;
      segments : l.tree.segments ≡ l.initial.tree.segments;
      width : l.tree.width ≡ l.initial.tree.width;
      lines : l.row.lines.items ≡ l.initial.row.lines.items;
      marks : l.row.marks.items ≡ [];
      kept : IsKept (laid l.pieces) line l.row.strips.items l.row.row.items;
      within : vec_len l.row.strips ≤ l.limit;
    }
