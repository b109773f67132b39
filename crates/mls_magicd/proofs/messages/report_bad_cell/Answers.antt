use Rattle.std.proofs.Common.{ℕ, List, subst}
use Rattle.mls_magicd.specs.Messages.{Reports}
use Rattle.mls_magicd.proofs.MessageLemmas.{bad_cell_line-parts}
use Rattle.mls_magicd.proofs.messages.report_bad_cell.Goals as goal

pub returns : goal.returns
returns g c =
    subst (λ (text : List ℕ). Reports g.E.Write.contents c.args.faults.now c.report.new.faults text)
    (bad_cell_line-parts c.args.word.now c.as_bytes.result.now c.as_bytes.ensures.value) c.report.ensures
