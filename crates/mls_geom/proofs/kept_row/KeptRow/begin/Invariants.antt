-- The lines so far are the world's and those of the pieces visited.
use Rattle.std.proofs.Common.{◌≡◌, ◌+◌, ◌*◌, [], take, vec_len, vec_capacity}
use Rattle.mls_geom.specs.World.{world}
use Rattle.mls_geom.proofs.RowLines.{ArePieceLines}
use Rattle.mls_geom.proofs.kept_row.KeptRow.begin.Given as goal

abbrev pub invariant-loop-piece : goal.invariant-loop-piece
invariant-loop-piece l = record {
  lines : ArePieceLines world (take l.piece-index l.pieces) l.self.lines.items;
  count : vec_len l.self.lines ≡ 2 * l.piece-index + 2;
  room : vec_capacity l.self.lines ≡ vec_capacity l.fn.self.lines;
  marks : l.self.marks.items ≡ [];
  row : l.self.row.items ≡ [];
  strips : l.self.strips.items ≡ [];
}
