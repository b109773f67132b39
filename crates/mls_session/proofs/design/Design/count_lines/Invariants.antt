use Rattle.std.proofs.Common.{◌≡◌, ◌≤◌, ◌+◌, ◌*◌, length}
use Rattle.mls_session.proofs.Common.{IsListing, layout_in}
use Rattle.mls_session.proofs.SavedSections.{lines_before}
use Rattle.mls_session.proofs.design.Design.count_lines.Given as goal

-- the lines so far are those up to the types so far, and the last
abbrev pub invariant-loop-number : goal.invariant-loop-number
invariant-loop-number l = record {
  pool : l.workspace.pool ≡ l.fn.workspace.pool;
  from : 1 ≤ l.number;
  count : l.lines ≡ length (lines_before l.tech (layout_in l.fn.workspace.pool l.self.planes) l.number) + 1;
  few : l.lines ≤ l.number * 4398046511105;
  lists : IsListing l.workspace.pool l.self l.listed l.workspace.pieces.items;
}
