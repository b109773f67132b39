use Rattle.std.proofs.lemmas.Result.{err_from_is_err_and}
use Rattle.mls_magicd.proofs.CellWords.{cut-refused}
use Rattle.mls_magicd.proofs.options.cut_words.Goals as goal

pub returns-in_err-cell-clause-err : goal.returns-in_err-cell-clause-err
returns-in_err-cell-clause-err c =
    let fault = err_from_is_err_and c.from_residual.result c.from_residual.ensures.1 in
    rw (fault.1, fault.2)
    (cut-refused c.args.words.now c.loop-word.word-index _ _ c.cut.result c.in_err-cell.field-0.0 c.loop-word-test.true c.loop-word.invariant c.cut.ensures c.in_err-cell.ensures.value)
