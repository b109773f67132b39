-- The copies so far show what the layout has in the zone with the uses.
use Rattle.std.proofs.Common.{◌≡◌, ℕ, ◌<◌}
use Rattle.mls_layout.specs.Uses.{flat_layout}
use Rattle.mls_checker.specs.FlatZones.{planes_layout}
use Rattle.mls_checker.specs.ZoneLayouts.{within}
use Rattle.mls_checker.proofs.snapshot.show_planes.Given as goal

abbrev pub invariant-loop-index : goal.invariant-loop-index
invariant-loop-index l = record {
  copies : (plane : ℕ) → plane < l.index → planes_layout l.fn.copies plane ≡ within l.fn.zone (flat_layout l.fn.workspace.pool l.fn.uses l.fn.planes) plane;
  pool : l.workspace.pool ≡ l.fn.workspace.pool;
}
