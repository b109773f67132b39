-- No tile has changed so far.
use Rattle.std.proofs.Common.{◌≡◌}
use Rattle.mls_checker.proofs.snapshot.stitch_planes.Given as goal

abbrev pub invariant-loop-index : goal.invariant-loop-index
invariant-loop-index l = l.planes ≡ l.fn.planes
