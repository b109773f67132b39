use Rattle.std.proofs.Common.{◌∙◌, sym}
use Rattle.mls_magicd.specs.CommandLines.{mode_of}
use Rattle.mls_magicd.specs.Programs.{FailsAs}
use Rattle.mls_magicd.proofs.Ends.{ends-reported}
use Rattle.mls_magicd.proofs.program.run_as.Goals as goal

pub returns-in-Err-clause-failed : goal.returns-in-Err-clause-failed
returns-in-Err-clause-failed g c words parsed is =
    ends-reported (g.F.Files.reads_as c.args.files.now) (g.F.Files.may_fail c.args.files.now) words g.E.Write.contents
    (λ on fault. FailsAs (mode_of c.args.options.now) on g.R.Read.remaining g.W.Write.contents c.args.devices.now.input c.serve_as.new.devices.input c.args.devices.now.output c.serve_as.new.devices.output fault)
    c.args.devices.now.faults c.serve_as.new.devices.faults c.fail.new.faults c.in-Err.fault (c.in-Err.ensures.err words parsed) (sym c.fail.ensures.status ∙ is) c.fail.ensures.reported
