use Rattle.std.proofs.Common.{rules, refl, sym, subst}
use Rattle.std.proofs.lemmas.Result.{err_from_is_err_and}
use Rattle.mls_magicd.specs.Messages.{ReportsAll}
use Rattle.mls_magicd.specs.Programs.{FailsAtStart, skipped_lines}
use Rattle.mls_magicd.specs.Technologies.{text_in}
use Rattle.mls_magicd.specs.declared.fault.Fault.{Fault}
use Rattle.mls_magicd.proofs.TechnologyLemmas.{has-fault, has-reading}
use Rattle.mls_magicd.proofs.program.read_technology.Goals as goal

pub returns-in_err-tech-clause-err : goal.returns-in_err-tech-clause-err
returns-in_err-tech-clause-err g c =
    let reads_as = g.F.Files.reads_as c.args.files.now in
    let fault = err_from_is_err_and c.from_residual-in_err-tech.result c.from_residual-in_err-tech.ensures.1 in
    rw fault.1 (λ words parsed.
    subst (λ (f : Fault). FailsAtStart reads_as (g.F.Files.may_fail c.args.files.now) words g.E.Write.contents c.args.faults.now c.args.faults.now f)
    (sym fault.2)
    (parsed.taken, has-fault reads_as _ _ (text_in c.in_ok-text.text) parsed.tech c.in_ok-text.ensures c.in_err-tech.field-0.0 c.in_err-tech.ensures, refl))

pub returns-in_err-rules-clause-err : goal.returns-in_err-rules-clause-err
returns-in_err-rules-clause-err g c =
    let reads_as = g.F.Files.reads_as c.args.files.now in
    let fault = err_from_is_err_and c.from_residual-in_err-rules.result c.from_residual-in_err-rules.ensures.1 in
    let tech = c.in_ok-tech.tech in
    let reported : ReportsAll g.E.Write.contents c.args.faults.now c.report_skipped.new.faults (skipped_lines tech) = search rules in
    rw fault.1 (λ words parsed.
    subst (λ (f : Fault). FailsAtStart reads_as (g.F.Files.may_fail c.args.files.now) words g.E.Write.contents c.args.faults.now c.report_skipped.new.faults f)
    (sym fault.2)
    (tech, parsed.taken, has-reading reads_as _ _ (text_in c.in_ok-text.text) parsed.tech c.in_ok-text.ensures tech c.in_ok-tech.ensures, sym c.in_err-rules.ensures, reported))

pub returns-clause-bare : goal.returns-clause-bare
returns-clause-bare g c words parsed =
    let reads_as = g.F.Files.reads_as c.args.files.now in
    let reading = has-reading reads_as _ _ (text_in c.in_ok-text.text) parsed.tech c.in_ok-text.ensures c.in_ok-tech.tech c.in_ok-tech.ensures in
    search rules
