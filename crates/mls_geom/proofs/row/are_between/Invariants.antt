-- The pieces visited reach from one of the lines to another.
use Rattle.std.proofs.Common.{take}
use Rattle.mls_geom.specs.Sweep.Slots.{AreBetweenLines}
use Rattle.mls_geom.proofs.row.are_between.Given as goal

abbrev pub invariant-loop-i : goal.invariant-loop-i
invariant-loop-i l = AreBetweenLines l.lines l.pieces (take l.i-index l.active)
