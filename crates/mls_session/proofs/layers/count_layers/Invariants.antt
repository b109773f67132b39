use Rattle.std.proofs.Common.{◌≡◌, ◌≤◌, ◌*◌, length}
use Rattle.mls_session.proofs.Common.{Layout, ListsPlanes}
use Rattle.mls_session.proofs.ListedLayers.{lines_before}
use Rattle.mls_session.proofs.layers.count_layers.Given as goal

-- the lines so far are those of the sections of the types so far
abbrev pub invariant-loop-number : goal.invariant-loop-number
invariant-loop-number l = record {
  from : 1 ≤ l.number;
  count : (layout : Layout) → ListsPlanes layout l.layers → l.lines ≡ length (lines_before l.tech layout l.number);
  few : l.lines ≤ l.number * 4398046511105;
}
