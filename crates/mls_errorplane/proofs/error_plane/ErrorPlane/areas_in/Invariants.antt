use Rattle.std.proofs.Common.{◌≡◌, take}
use Rattle.mls_errorplane.specs.ErrorsIn.{areas_in}
use Rattle.mls_errorplane.proofs.error_plane.ErrorPlane.areas_in.Given as goal

-- the parts of the areas so far
abbrev pub invariant-loop-area : goal.invariant-loop-area
invariant-loop-area l = l.parts.items ≡ areas_in l.fn.rect (take l.area-index l.area-items)
