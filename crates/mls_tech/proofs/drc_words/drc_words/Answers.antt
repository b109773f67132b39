use Rattle.std.proofs.Common.{◌∙◌}
use Rattle.mls_tech.proofs.DrcWordLemmas.{word_bytes-push}
use Rattle.mls_tech.proofs.drc_words.drc_words.Goals as goal

pub loop-words-preserved : goal.loop-words-preserved
loop-words-preserved c =
    rw c.in_ok-push-in-Word.ensures.items
    (c.loop-words.invariant ∙ word_bytes-push c.loop-words.words.items c.in-Word.word _ _ c.in-Word.ensures.0)
