use Rattle.std.proofs.Common.{ℕ, List, ◌∙◌, subst}
use Rattle.mls_magicd.specs.Messages.{Reports}
use Rattle.mls_magicd.proofs.MessageLemmas.{skipped_message-parts}
use Rattle.mls_magicd.proofs.messages.report_skipped_line.Goals as goal

pub returns : goal.returns
returns g c =
    subst (λ (text : List ℕ). Reports g.E.Write.contents c.args.faults.now c.report.new.faults text)
    (skipped_message-parts c.args.skipped.now c.as_bytes.result.now c.as_slice.result.now (c.as_bytes.ensures.value ∙ c.format.ensures.text) c.as_slice.ensures)
    c.report.ensures
