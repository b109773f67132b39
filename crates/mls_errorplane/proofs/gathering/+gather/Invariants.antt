use Rattle.mls_errorplane.specs.Halves.{sides}
use Rattle.mls_errorplane.proofs.gathering.+gather.Given as goal

-- each half has fewer columns or fewer rows
abbrev pub decreases-gather : goal.decreases-gather
decreases-gather l = sides l.rect
