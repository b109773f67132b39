-- The lines so far are the world's and those of the pieces visited.
use Rattle.std.proofs.Common.{◌≡◌, ◌+◌, ◌*◌, take, vec_len, vec_capacity}
use Rattle.mls_geom.specs.World.{world}
use Rattle.mls_geom.proofs.RowLines.{AreLines}
use Rattle.mls_geom.proofs.row.list_lines.Given as goal

abbrev pub invariant-loop-i : goal.invariant-loop-i
invariant-loop-i l = record {
  lines : AreLines world l.pieces (take l.i-index l.active) l.lines.items;
  count : vec_len l.lines ≡ 2 * l.i-index + 2;
  room : vec_capacity l.lines ≡ vec_capacity l.fn.lines;
}
