use Rattle.std.proofs.Common.{◌≡◌, ◌+◌, ◌*◌, ◌≤◌, take, vec_len, vec_capacity}
use Rattle.mls_geom.proofs.Definitions.{HaveKinds, HaveEnds, AreLegal, world}
use Rattle.mls_geom.proofs.bands.list_band_lines.Given as goal

abbrev pub invariant-loop-piece : goal.invariant-loop-piece
invariant-loop-piece l = record {
  legal : AreLegal (take l.piece-index l.pieces);
  kinds : HaveKinds (take l.piece-index l.pieces);
  members : HaveEnds world (take l.piece-index l.pieces) l.lines.items;
  len : vec_len l.lines ≤ 2 * l.piece-index + 2;
  room : vec_capacity l.lines ≡ vec_capacity l.initial.lines;
}
