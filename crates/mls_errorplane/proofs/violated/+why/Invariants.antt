use Rattle.mls_errorplane.specs.Halves.{sides}
use Rattle.mls_errorplane.proofs.violated.+why.Given as goal

-- each half has fewer columns or fewer rows
abbrev pub decreases-why : goal.decreases-why
decreases-why l = sides l.rect
