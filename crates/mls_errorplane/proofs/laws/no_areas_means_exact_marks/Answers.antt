use Rattle.std.proofs.Common.{refl}
use Rattle.mls_errorplane.proofs.laws.no_areas_means_exact_marks.Goals as goal

pub returns : goal.returns
returns c = λ rules layout marks right x y here. right x y here refl
