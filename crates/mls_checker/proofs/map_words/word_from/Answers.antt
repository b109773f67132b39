use Rattle.std.proofs.Common.{arith}
use Rattle.mls_checker.proofs.MapWords.{joined-high, joined-low}
use Rattle.mls_checker.proofs.map_words.word_from.Goals as goal

pub returns-clause-low : goal.returns-clause-low
returns-clause-low c k within = joined-low c.args.word c.args.next c.args.bits k c.requires within

pub returns-clause-high : goal.returns-clause-high
returns-clause-high c k below after = joined-high c.args.word c.args.next c.args.bits k c.requires below after (omega arith)
