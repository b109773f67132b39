-- The words so far name files.
use Rattle.std.proofs.Common.{map, take}
use Rattle.mls_magicd.specs.CommandLines.{NamesFiles, file_of}
use Rattle.mls_magicd.proofs.options.cut_words.Given as goal

abbrev pub invariant-loop-word : goal.invariant-loop-word
invariant-loop-word l = NamesFiles (map (λ word. word.now) (take l.word-index l.words)) (map file_of l.cells.items)
