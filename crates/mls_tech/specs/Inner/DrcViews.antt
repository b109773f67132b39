-- What is seen of lines of `drc` that are being read, and of those that were.
use Rattle.std.specs.Prelude.{◌≡◌, ◌<◌, ℕ, Option, Some, None, List, [], length, map}
use Rattle.std.specs.Borrow.{Bor}
use Rattle.mls_tech.specs.DrcLines.{Between, word_before, words_from, DrcLine, stated, Skips}
use Rattle.mls_tech.specs.declared.drc_line.DrcLine.{DrcLine as ReadLine}
use Rattle.mls_tech.specs.declared.drc_line.DrcLine.TheVariants as read
use Rattle.mls_tech.specs.declared.drc_line.Directions.{Directions}
use Rattle.mls_tech.specs.declared.drc_line.Directions.TheVariants.{Two, Four}
use Rattle.mls_tech.specs.declared.drc_words.NextWord.{NextWord}
use Rattle.mls_tech.specs.declared.drc_words.NextWord.TheVariants.{Nothing, Unclosed, Word}
use Rattle.mls_tech.specs.declared.rule.Edge.{Edge as EdgeWords}
use Rattle.mls_tech.specs.declared.rule.Rule.{Rule}
use Rattle.mls_tech.specs.declared.rule.Rule.TheVariants.{Edge, Edge4Way}

-- the bytes of words
abbrev pub word_bytes : List (Bor (List ℕ)) → List (List ℕ)
word_bytes words = map (λ word. word.now) words

-- the words begin so, and fewer bytes than the limit follow the first
abbrev pub Begins : ℕ → Option (List (List ℕ)) → NextWord → Type 0
Begins limit words Nothing = words ≡ Some []
Begins limit words Unclosed = words ≡ None
Begins limit words (Word word rest) = (words ≡ word_before word.now (words_from Between rest.now)) × (length rest.now < limit)

-- a line without where its bytes lie in memory
abbrev pub said : ReadLine → DrcLine
said (read.States rule why) = stated rule why.now
said (read.Skips keyword) = Skips keyword.now

-- the rule of an edge line with edges in so many directions
abbrev pub edge_rule : Directions → EdgeWords → Rule
edge_rule Two = Edge
edge_rule Four = Edge4Way
