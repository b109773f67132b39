use Rattle.std.proofs.Common.{ℕ, List, ◌∙◌, subst}
use Rattle.mls_magicd.specs.Messages.{Reports}
use Rattle.mls_magicd.proofs.MessageLemmas.{faulty_line-parts}
use Rattle.mls_magicd.proofs.messages.report_faulty_line.Goals as goal

pub returns : goal.returns
returns g c =
    subst (λ (text : List ℕ). Reports g.E.Write.contents c.args.faults.now c.report.new.faults text)
    (faulty_line-parts c.args.file.now c.args.name.now c.args.sort.now c.args.text.now c.args.numbers.0 c.args.numbers.1
    c.as_bytes.result.now c.as_bytes-2.result.now c.as_bytes-3.result.now
    (c.as_bytes.ensures.value ∙ c.format.ensures.text) (c.as_bytes-2.ensures.value ∙ c.format-2.ensures.text) c.as_bytes-3.ensures.value)
    c.report.ensures
