use Rattle.std.proofs.Common.{◌≤◌, All, take}
use Rattle.mls_tech.specs.Inner.ListReaders.{openings}
use Rattle.mls_tech.proofs.drc_line.most_openings.Given as goal

abbrev pub invariant-loop-word : goal.invariant-loop-word
invariant-loop-word l = All (λ word. openings word.now ≤ l.most) (take l.word-index l.words)
