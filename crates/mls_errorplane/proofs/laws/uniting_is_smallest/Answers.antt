use Rattle.mls_errorplane.proofs.KeptLists.{round_all_in}
use Rattle.mls_errorplane.proofs.laws.uniting_is_smallest.Goals as goal

pub returns : goal.returns
returns c = round_all_in
