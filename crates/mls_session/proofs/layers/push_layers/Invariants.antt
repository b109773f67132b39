use Rattle.std.proofs.Common.{◌≡◌, ◌≤◌, ◌++◌}
use Rattle.mls_session.proofs.Common.{Extends, Layout, ListsPlanes, text_of}
use Rattle.mls_session.proofs.ListedLayers.{lines_before}
use Rattle.mls_session.proofs.layers.push_layers.Given as goal

-- the text so far has the sections of the types so far
abbrev pub invariant-loop-number : goal.invariant-loop-number
invariant-loop-number l = record {
  from : 1 ≤ l.number;
  kept : Extends l.fn.out.items l.out.items;
  text : (layout : Layout) → ListsPlanes layout l.layers → l.out.items ≡ l.fn.out.items ++ text_of (lines_before l.tech layout l.number);
}
