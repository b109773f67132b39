use Rattle.std.proofs.Common.{◌≡◌, map, take}
use Rattle.mls_library.specs.Bounds.{any_painted, bounds_of}
use Rattle.mls_library.proofs.bounds.bounds_of.Given as goal

-- the rectangle is the smallest round the planes so far
abbrev pub invariant-loop-strips : goal.invariant-loop-strips
invariant-loop-strips l = l.bounds ≡ bounds_of (any_painted (take l.strips-index (map (λ strips. strips.items) l.planes)))
