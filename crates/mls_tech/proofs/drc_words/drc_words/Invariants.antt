use Rattle.std.proofs.Common.{◌≡◌, ◌++◌, length}
use Rattle.std.specs.Option.{option_map}
use Rattle.mls_tech.specs.DrcLines.{Between, words_from}
use Rattle.mls_tech.specs.Inner.DrcViews.{word_bytes}
use Rattle.mls_tech.proofs.drc_words.drc_words.Given as goal

abbrev pub invariant-loop-words : goal.invariant-loop-words
invariant-loop-words l =
    words_from Between l.line ≡ option_map (λ others. word_bytes l.words.items ++ others) (words_from Between l.rest)

abbrev pub decreases-loop-words : goal.decreases-loop-words
decreases-loop-words l = length l.rest
