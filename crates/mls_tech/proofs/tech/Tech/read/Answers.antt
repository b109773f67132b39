use Rattle.mls_tech.proofs.ReadingLemmas.{reading_of-text}
use Rattle.mls_tech.proofs.tech.Tech.read.Goals as goal

pub returns : goal.returns
returns c = rw (reading_of-text _ c.in_default.ensures.cases.1) c.read_lines.ensures
