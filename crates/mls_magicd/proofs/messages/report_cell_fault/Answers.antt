use Rattle.std.proofs.Common.{◌++◌, ℕ, List, codes, subst}
use Rattle.mls_lines.specs.mls_library.Faults.{fault_number, fault_text}
use Rattle.mls_magicd.specs.Messages.{Reports, faulty_line}
use Rattle.mls_magicd.proofs.messages.report_cell_fault.Goals as goal

pub returns : goal.returns
returns g c =
    let reports = λ (name : List ℕ) (number : ℕ) (text : List ℕ).
    Reports g.E.Write.contents c.args.faults.now c.report_faulty_line.new.faults (faulty_line (codes "cell " ++ name) (codes " fault ") c.args.fault.line number text) in
    subst (λ (name : List ℕ). reports name (fault_number c.args.fault.kind) (fault_text c.args.fault.kind)) c.as_bytes.ensures.value
    (subst (λ (number : ℕ). reports c.as_bytes.result.now number (fault_text c.args.fault.kind)) c.number.ensures
    (subst (λ (text : List ℕ). reports c.as_bytes.result.now c.number.result text) c.text.ensures c.report_faulty_line.ensures))
