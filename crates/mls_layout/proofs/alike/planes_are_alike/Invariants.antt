-- the planes so far have the likeness
use Rattle.std.proofs.Common.{◌≡◌, All, take}
use Rattle.mls_paint.specs.Planes.{picture_in}
use Rattle.mls_layout.specs.Likenesses.{ShowsAlike}
use Rattle.mls_layout.proofs.alike.planes_are_alike.Given as goal

abbrev pub invariant-loop-plane : goal.invariant-loop-plane
invariant-loop-plane l = record {
  each : All (λ owner. ShowsAlike l.fn.zone.likeness l.fn.zone.halo l.fn.zone.rect (picture_in l.fn.workspace.pool owner)) (take l.plane-index l.fn.planes);
  pool : l.workspace.pool ≡ l.fn.workspace.pool;
}
