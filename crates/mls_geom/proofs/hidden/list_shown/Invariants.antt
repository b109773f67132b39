-- The pieces that are listed show what those show that the loop has visited, the last one first.
use Rattle.std.proofs.Common.{◌≡◌, ◌-◌, ◌≤◌, length, drop, vec_len, vec_capacity}
use Rattle.mls_geom.proofs.HiddenPieces.{HasShown}
use Rattle.mls_geom.proofs.hidden.list_shown.Given as goal

abbrev pub invariant-loop-i : goal.invariant-loop-i
invariant-loop-i l = record {
  visited : HasShown (drop (length l.pieces - l.i) l.pieces) l.greatest l.shown.items;
  len : vec_len l.shown ≤ l.i;
  room : vec_capacity l.shown ≡ vec_capacity l.fn.shown;
}
