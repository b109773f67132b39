use Rattle.std.proofs.Common.{◌≡◌}
use Rattle.mls_edgerule.specs.PlaneTypes.{has_edges, only_one, trigger_plane}
use Rattle.mls_edgerule.proofs.OnlyOne.{found, passing}
use Rattle.mls_edgerule.proofs.plane_types.trigger_plane.Given as goal

abbrev pub invariant-loop-number : goal.invariant-loop-number
invariant-loop-number l = only_one (found l.found (passing (has_edges l.tech l.set l.other) l.number l.number-end)) ≡ trigger_plane l.tech l.set l.other
