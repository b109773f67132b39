use Rattle.mls_checker.proofs.MapWords.{read-aligned}
use Rattle.mls_checker.proofs.map_words.Ahead.aligned_word.Goals as goal

pub returns : goal.returns
returns c k below = read-aligned c.args.self.map.now c.args.self.places c.args.row k c.requires.aligned below
