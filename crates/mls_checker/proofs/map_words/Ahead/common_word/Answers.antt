use Rattle.mls_kinds.proofs.BitLemmas.{has_bit-and}
use Rattle.mls_checker.proofs.MapWords.{read-both-ahead}
use Rattle.mls_checker.proofs.map_words.Ahead.common_word.Goals as goal

pub returns : goal.returns
returns c k below =
    read-both-ahead c.args.self.map.now c.args.other.map.now c.word_from.result _ _ c.args.self.places c.args.other.places c.args.row k c.requires.aligned
    (λ j. has_bit-and _ _ j) (λ j. has_bit-and _ _ j) c.word_from.ensures.low c.word_from.ensures.high below
