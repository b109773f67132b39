use Rattle.mls_magicd.proofs.TechnologyLemmas.{technology_m-text}
use Rattle.mls_magicd.proofs.technology.TechnologyText.bytes.Goals as goal

pub returns-in-BuiltIn : goal.returns-in-BuiltIn
returns-in-BuiltIn c = rw c.in-BuiltIn.is technology_m-text
