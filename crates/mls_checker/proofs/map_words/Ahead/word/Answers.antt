use Rattle.mls_checker.proofs.MapWords.{read-ahead}
use Rattle.mls_checker.proofs.map_words.Ahead.word.Goals as goal

pub returns : goal.returns
returns c k below = read-ahead c.args.self.map.now c.word_from.result c.args.self.places c.args.row k c.word_from.ensures.low c.word_from.ensures.high below
