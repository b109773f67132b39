use Rattle.std.proofs.Common.{◌≡◌, ◌+◌, ◌++◌, take, vec_len, vec_capacity}
use Rattle.mls_geom.specs.Sweep.ActivePieces.{pieces_of}
use Rattle.mls_geom.proofs.active.activate.Given as goal

abbrev pub invariant-loop-start : goal.invariant-loop-start
invariant-loop-start l = record {
  joined : l.active.items ≡ l.initial.active.items ++ pieces_of (take l.start-index l.started);
  len : vec_len l.active ≡ vec_len l.initial.active + l.start-index;
  room : vec_capacity l.active ≡ vec_capacity l.initial.active;
}
