-- the planes so far have the likeness, and the pool is as it was
use Rattle.std.proofs.Common.{◌≡◌, All, take}
use Rattle.mls_paint.specs.Planes.{picture_in}
use Rattle.mls_layout.specs.Inner.{in_world}
use Rattle.mls_layout.specs.Likenesses.{ShowsAlike}
use Rattle.mls_layout.specs.Moves.{moved_picture}
use Rattle.mls_layout.proofs.alike_uses.cell_is_alike.Given as goal

abbrev pub invariant-loop-plane : goal.invariant-loop-plane
invariant-loop-plane l = record {
  each : All (λ owner. ShowsAlike l.fn.zone.likeness l.fn.zone.halo l.fn.zone.rect (in_world (moved_picture (picture_in l.fn.workspace.pool owner) l.fn.cell_use.dx l.fn.cell_use.dy))) (take l.plane-index l.fn.cell.planes);
  pool : l.workspace.pool ≡ l.fn.workspace.pool;
}
