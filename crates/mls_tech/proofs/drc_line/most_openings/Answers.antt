use Rattle.std.proofs.Common.{◌≡◌, take}
use Rattle.std.proofs.lemmas.List.{take_all}
use Rattle.mls_tech.proofs.ReaderLemmas.{most-more}
use Rattle.mls_tech.proofs.drc_line.most_openings.Goals as goal

pub loop-word-preserved : goal.loop-word-preserved
loop-word-preserved c =
    most-more c.args.words.now c.loop-word.word-index c.loop-word.most c.openings.result c.max-most.result _ c.loop-word-test.true c.openings.ensures c.max-most.ensures c.loop-word.invariant

pub returns : goal.returns
returns c =
    let words = c.args.words.now in
    let whole : take c.loop-word.word-index words ≡ words = take_all c.loop-word.word-index words c.loop-word-test.false in
    rw whole at c.loop-word.invariant
