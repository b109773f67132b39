use Rattle.std.proofs.Common.{◌≡◌, ◌≤◌, ◌+◌, ◌*◌, ◌++◌, length, vec_capacity}
use Rattle.mls_session.proofs.Common.{IsListing, layout_in, text_of}
use Rattle.mls_session.proofs.SavedSections.{lines_before}
use Rattle.mls_session.proofs.design.Design.push_text.Given as goal

-- the text so far has the lines up to the types so far, and the lines counted are these and the last
abbrev pub invariant-loop-number : goal.invariant-loop-number
invariant-loop-number l = record {
  pool : l.workspace.pool ≡ l.fn.workspace.pool;
  from : 1 ≤ l.number;
  text : l.out.items ≡ l.fn.out.items ++ text_of (lines_before l.tech (layout_in l.fn.workspace.pool l.self.planes) l.number);
  count : l.lines ≡ length (lines_before l.tech (layout_in l.fn.workspace.pool l.self.planes) l.number) + 1;
  few : l.lines ≤ l.number * 4398046511105;
  capacity : vec_capacity l.fn.out ≤ vec_capacity l.out;
  lists : IsListing l.workspace.pool l.self l.listed l.workspace.pieces.items;
}
