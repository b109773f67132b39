use Rattle.mls_geom.proofs.Common.{◌≡◌, vec_len, vec_capacity, All, range_with_len}
use Rattle.mls_geom.specs.Sweep.ActivePieces.{NamesPiece, pieces_of}
use Rattle.mls_geom.proofs.active.list_starts.Given as goal

abbrev pub invariant-loop-i : goal.invariant-loop-i
invariant-loop-i l = record {
  named : All (NamesPiece l.pieces) l.starts.items;
  each : pieces_of l.starts.items ≡ range_with_len 0 l.i;
  len : vec_len l.starts ≡ l.i;
  room : vec_capacity l.starts ≡ vec_capacity l.initial.starts;
}
