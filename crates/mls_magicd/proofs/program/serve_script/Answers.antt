use Rattle.std.proofs.Common.{ap, subst, sym}
use Rattle.std.proofs.lemmas.Result.{err_from_is_err_and}
use Rattle.mls_lines.specs.mls_server.Servers.{world_of}
use Rattle.mls_magicd.specs.Programs.{FailsInScript, IsLeftBy, status_after}
use Rattle.mls_magicd.specs.declared.fault.Fault.{Fault}
use Rattle.mls_magicd.proofs.program.serve_script.Goals as goal

pub returns-in_err-serve-clause-err : goal.returns-in_err-serve-clause-err
returns-in_err-serve-clause-err g c =
    let fault = err_from_is_err_and c.from_residual.result c.from_residual.ensures.1 in
    let last = world_of c.serve.new.server in
    let left : IsLeftBy (world_of c.args.server.now) last = record { setting = c.serve.ensures.setting; marks_right = c.serve.ensures.marks_right; marks_exact = c.serve.ensures.marks_exact } in
    rw fault.1 (subst (λ (f : Fault). FailsInScript (world_of c.args.server.now) (g.R.Read.remaining c.args.devices.now.input.device) (g.R.Read.remaining c.serve.new.input.device)
    (g.W.Write.contents c.args.devices.now.output.device) (g.W.Write.contents c.serve.new.output.device) c.serve.new.input c.serve.new.output f) (sym fault.2)
    ((last, c.in_err-serve.ensures.cut, left), c.in_err-serve.ensures.cause))

pub returns-in_err-serve-clause-status : goal.returns-in_err-serve-clause-status
returns-in_err-serve-clause-status g c =
    let fault = err_from_is_err_and c.from_residual.result c.from_residual.ensures.1 in
    rw fault.1 (ap status_after fault.2)

pub returns-clause-ok : goal.returns-clause-ok
returns-clause-ok g c =
    let last = world_of c.serve.new.server in
    (last, c.in_ok-serve.ensures.run, record { setting = c.serve.ensures.setting; marks_right = c.serve.ensures.marks_right; marks_exact = c.serve.ensures.marks_exact })
