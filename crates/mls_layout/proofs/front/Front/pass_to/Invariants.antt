use Rattle.std.proofs.Common.{◌-◌, length}
use Rattle.mls_layout.proofs.front.Front.pass_to.Given as goal

abbrev pub decreases-passing : goal.decreases-passing
decreases-passing l = length l.self.below.items - l.self.passed
