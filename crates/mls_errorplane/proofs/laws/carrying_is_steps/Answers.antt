use Rattle.mls_errorplane.proofs.CarriedSteps.{carried}
use Rattle.mls_errorplane.proofs.laws.carrying_is_steps.Goals as goal

pub returns : goal.returns
returns c = carried
