use Rattle.std.proofs.Common.{◌≡◌, take}
use Rattle.mls_library.specs.Bounds.{are_painted, bounds_of}
use Rattle.mls_library.proofs.bounds.strips_bounds.Given as goal

-- the rectangle is the smallest round the strips so far that aren't space
abbrev pub invariant-loop-strip : goal.invariant-loop-strip
invariant-loop-strip l = l.bounds ≡ bounds_of (are_painted (take l.strip-index l.strips))
